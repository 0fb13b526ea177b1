use Rattle.std.proofs.Common.{◌∙◌, ap, subst, sym}
use Rattle.key_paths.specs.Paths.{ranges_of}
use Rattle.synced_marks.specs.Synced.{is_synced}
use Rattle.relist_merge.specs.Deliveries.{Delivery}
use Rattle.store_api.specs.Given.{gone_on}
use Rattle.relist_merge.specs.Given.{delivery_of}
use Rattle.relist_merge.specs.Sight.{viewed}
use Rattle.relist_merge.specs.View.{Follows, View, view_after}
use Rattle.relist_merge.specs.Viewed.{Source, Viewed, followed}
use Rattle.relist_merge.proofs.CallerLemmas.{follows_given}
use Rattle.relist_merge.proofs.view.View.follow.Goals as goal

pub returns-clause-follows : goal.returns-clause-follows
returns-clause-follows c = λ h r follows given.
    let s : Source = (viewed c.args.self.now).source in
    let same = c.take.ensures.view
    ∙ ap (λ (v : Viewed). view_after (followed v.source) (delivery_of c.in_ok-delivery.delivery) v.shown) c.reserve.ensures.same
    ∙ ap (λ (d : Delivery). view_after (followed (viewed c.args.self.now).source) d (viewed c.args.self.now).shown) c.in_ok-delivery.ensures.same in
    subst (λ (v : View). Follows (followed (viewed c.args.self.now).source) h (gone_on c.args.delivery r) v) (sym same)
    (follows_given (ranges_of s.cluster s.hop) (is_synced s.cluster s.hop s.limit) h r c.args.delivery (viewed c.args.self.now).shown follows given)
