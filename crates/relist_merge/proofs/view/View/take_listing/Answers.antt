use Rattle.std.proofs.Common.{◌∙◌, ap, map}
use Rattle.relist_merge.specs.Given.{pair_of}
use Rattle.relist_merge.specs.View.{finished, with_listing}
use Rattle.relist_merge.specs.Viewed.{Source, Viewed, followed}
use Rattle.relist_merge.specs.Sight.{viewed}
use Rattle.relist_merge.proofs.view.View.take_listing.Goals as goal

pub returns-clause-view : goal.returns-clause-view
returns-clause-view c =
    let begun_is = ap (λ (v : Viewed). v.shown) c.begin_list.ensures in
    let source_is = c.apply_listing.ensures.source ∙ ap (λ (v : Viewed). v.source) c.begin_list.ensures in
    ap (λ (v : Viewed). v.shown) c.finish_sync.ensures.view
    ∙ ap (λ (s : Source). finished (followed s) (viewed c.apply_listing.new.self).shown) source_is
    ∙ ap (finished (followed (viewed c.args.self.now).source)) (c.apply_listing.ensures.view ∙ ap (with_listing c.args.listing.at (map pair_of c.args.listing.pairs)) begun_is)
