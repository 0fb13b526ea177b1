use Rattle.std.proofs.Common.{None, cond, ap, ◌∙◌}
use Rattle.std.specs.Ordering.{nat_cmp, is_eq}
use Rattle.std.specs.Cmp.{tied_itself}
use Rattle.std.specs.Cmp.Lexicographic.{slice_cmp, nat_list_cmp_total}
use Rattle.std.specs.BTreeMap.{get}
use Rattle.memory_store.proofs.attached.Attached.attach.Goals as goal

pub attach_first-requires-clause-none : goal.attach_first-requires-clause-none
attach_first-requires-clause-none c = c.in_ok-detach.ensures.leases c.args.key.now ∙ ap (λ b. cond b None (get (slice_cmp nat_cmp) c.args.self.now.leases c.args.key.now)) (ap is_eq (tied_itself nat_list_cmp_total c.args.key.now))
