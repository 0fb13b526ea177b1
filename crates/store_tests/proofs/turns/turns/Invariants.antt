use Rattle.std.proofs.Common.{◌≡◌, false}
use Rattle.store_tests.proofs.turns.turns.Given as goal

abbrev pub invariant-loop-number : goal.invariant-loop-number
invariant-loop-number g l = record {
  outside : l.pass.inside ≡ false;
  cell : l.pass.cell ≡ l.fn.pass.cell;
  number : l.pass.number ≡ l.fn.pass.number;
  gathered : l.pass.gathered ≡ l.fn.pass.gathered;
  drawn : l.pass.drawn ≡ l.fn.pass.drawn;
}
