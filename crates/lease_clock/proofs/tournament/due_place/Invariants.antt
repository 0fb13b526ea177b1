use Rattle.std.proofs.Common.{◌≤◌, ◌<◌, ◌-◌, length}
use Rattle.lease_clock.specs.Least.{least_at}
use Rattle.lease_clock.proofs.tournament.due_place.Given as goal

-- the place keeps a deadline that is due
abbrev pub invariant-loop-place : goal.invariant-loop-place
invariant-loop-place l = record {
  inside : l.place < length l.kept;
  due : least_at l.kept l.place ≤ l.time;
}

abbrev pub decreases-loop-place : goal.decreases-loop-place
decreases-loop-place l = length l.kept - l.place
