use Rattle.std.proofs.Common.{sym, subst}
use Rattle.relist_merge.specs.Deliveries.{delivered}
use Rattle.relist_merge.specs.Given.{delivery_of}
use Rattle.relist_merge.specs.Sight.{viewed}
use Rattle.relist_merge.specs.View.{Follows, View}
use Rattle.relist_merge.specs.Viewed.{followed}
use Rattle.relist_merge.proofs.Steps.{follows_next}
use Rattle.relist_merge.proofs.view.View.take.Goals as goal

pub returns-clause-follows : goal.returns-clause-follows
returns-clause-follows c = λ h r follows reads.
    subst (λ (v : View). Follows (followed (viewed c.args.self.now).source) h (delivered (delivery_of c.args.delivery) r) v) (sym c.take_any.ensures.view)
    (follows_next (followed (viewed c.args.self.now).source) h r (delivery_of c.args.delivery) (viewed c.args.self.now).shown follows reads)
