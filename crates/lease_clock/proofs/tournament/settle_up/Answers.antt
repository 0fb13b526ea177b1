use Rattle.std.proofs.Common.{arith, refl, ◌∙◌}
use Rattle.lease_clock.proofs.Deadlines.{from_settled, up_settled}
use Rattle.lease_clock.proofs.tournament.settle_up.Goals as goal

pub loop-place-init : goal.loop-place-init
loop-place-init c = record {
  inside = omega (arith, c.settle.auto.kept);
  entries = c.settle.ensures.entries;
  others = from_settled _ _ _ c.settle.ensures c.requires.others;
}

pub loop-place-preserved : goal.loop-place-preserved
loop-place-preserved c = record {
  inside = omega (arith, c.settle-in-loop-place.auto.kept, c.loop-place.invariant.inside);
  entries = c.settle-in-loop-place.ensures.entries ∙ c.loop-place.invariant.entries;
  others = up_settled _ _ _ c.settle-in-loop-place.ensures c.loop-place.place (omega (arith, c.loop-place-test.true)) refl c.loop-place.invariant.others;
}
