use Rattle.std.proofs.Common.{arith}
use Rattle.std.proofs.lemmas.List.{get_or_default}
use Rattle.lease_clock.proofs.Deadlines.{settles}
use Rattle.lease_clock.proofs.tournament.settle.Goals as goal

pub returns : goal.returns
returns c =
    settles _ _ c.requires _ (get_or_default _ _ _ _ c.requires) _ (omega (arith, c.earlier-at.ensures, c.earlier.ensures, c.least_at-left.ensures, c.least_at-right.ensures))
