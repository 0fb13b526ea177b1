use Rattle.std.proofs.Common.{sym, subst, List}
use Rattle.exporter.specs.Kept.{HasKeys}
use Rattle.exporter.specs.declared.item.Item.{Item}
use Rattle.exporter.proofs.Queues.{added_other}
use Rattle.exporter.proofs.queue.Queue.add_other.Goals as goal

pub invariant_of-self-2 : goal.invariant_of-self-2
invariant_of-self-2 c = subst (λ (q : List Item). HasKeys q c.self.inside.keys) (sym c.in_ok-push_back.ensures.items) (added_other c.self.inside.items.items c.self.inside.keys c.args.item c.self.invariant c.requires)
