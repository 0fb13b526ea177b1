use Rattle.std.proofs.Common.{◌≡◌, ℕ, length, map}
use Rattle.lease_clock.specs.Kept.{entries_of, lease_of, leases_of}
use Rattle.lease_clock.specs.Lapses.{IsNumbered}
use Rattle.lease_clock.specs.Least.{IsTournament}
use Rattle.lease_clock.proofs.Numbers.{staying}
use Rattle.lease_clock.proofs.tournament.end_due.Given as goal

-- those that stay are the same
abbrev pub invariant-loop-place : goal.invariant-loop-place
invariant-loop-place l = record {
  leases : staying l.time (leases_of (entries_of l.kept)) ≡ staying l.time (leases_of (entries_of l.fn.kept));
  numbered : (low last : ℕ) → IsNumbered low (map lease_of (entries_of l.fn.kept)) last → IsNumbered low (map lease_of (entries_of l.kept)) last;
  settled : IsTournament l.kept;
}

abbrev pub decreases-loop-place : goal.decreases-loop-place
decreases-loop-place l = length (leases_of (entries_of l.kept))
