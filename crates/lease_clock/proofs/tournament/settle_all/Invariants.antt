use Rattle.std.proofs.Common.{◌≡◌, ◌≤◌, ℕ}
use Rattle.lease_clock.specs.Kept.{entries_of}
use Rattle.lease_clock.specs.Least.{IsSettled}
use Rattle.lease_clock.proofs.tournament.settle_all.Given as goal

-- the last ones are settled
abbrev pub invariant-loop-place : goal.invariant-loop-place
invariant-loop-place l = record {
  entries : entries_of l.kept ≡ entries_of l.fn.kept;
  last : (i : ℕ) → l.place ≤ i → IsSettled l.kept i;
}
