use Rattle.std.proofs.Common.{◌≡◌, ◌≢◌, ◌<◌, ◌*◌, ◌+◌, ℕ, length}
use Rattle.lease_clock.specs.Kept.{entries_of}
use Rattle.lease_clock.specs.Least.{IsSettled}
use Rattle.lease_clock.proofs.tournament.settle_up.Given as goal

-- all are settled but the one that the place stands under
abbrev pub invariant-loop-place : goal.invariant-loop-place
invariant-loop-place l = record {
  inside : l.place < length l.kept;
  entries : entries_of l.kept ≡ entries_of l.fn.kept;
  others : (i : ℕ) → 2 * i + 1 ≢ l.place → 2 * i + 2 ≢ l.place → IsSettled l.kept i;
}

abbrev pub decreases-loop-place : goal.decreases-loop-place
decreases-loop-place l = l.place
