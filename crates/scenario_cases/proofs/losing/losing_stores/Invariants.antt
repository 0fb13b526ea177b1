use Rattle.std.proofs.Common.{◌≡◌, length}
use Rattle.scenario_cases.proofs.losing.losing_stores.Given as goal

abbrev pub invariant-loop-place : goal.invariant-loop-place
invariant-loop-place l = record {
  many : length l.stores.items ≡ l.place;
}
