use Rattle.std.proofs.Common.{arith, ℕ, List, ap, ◌∙◌}
use Rattle.std.specs.Prelude.{nat_le}
use Rattle.std.specs.List.{list_any}
use Rattle.store_api.specs.Leases.{LeaseTable, is_due}
use Rattle.lease_clock.specs.declared.tournament.KeptLease.{KeptLease}
use Rattle.lease_clock.specs.Kept.{at_time}
use Rattle.lease_clock.specs.Least.{least_at}
use Rattle.lease_clock.proofs.Deadlines.{due_by_first}
use Rattle.lease_clock.proofs.Ranks.{is_any_due}
use Rattle.lease_clock.proofs.leases.Leases.has_due_at.Goals as goal

pub returns : goal.returns
returns c =
    let first = c.least_at.ensures ∙ ap (λ (kept : List KeptLease). least_at kept 0) c.deref.ensures.value in
    is_any_due (at_time c.args.time c.args.self.now) c.comes_by.result (
    c.comes_by.ensures ∙ ap (λ (l : ℕ). nat_le l c.args.time) first
    ∙ due_by_first c.self.inside.kept.items c.self.invariant.settled c.args.time (omega (arith, c.ranges.time))
    ∙ ap (λ (table : LeaseTable). list_any (is_due c.args.time) table.live) c.self.view_is
    )
