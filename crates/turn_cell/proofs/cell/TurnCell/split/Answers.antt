use Rattle.std.proofs.Common.{sym, subst, ◌∷◌}
use Rattle.turn_cell.specs.Logs.{Begins, AreExact, after}
use Rattle.turn_cell.specs.Seats.{own_of, gathered_of}
use Rattle.turn_cell.proofs.Passes.{split_pass}
use Rattle.turn_cell.proofs.cell.TurnCell.split.Goals as goal

pub invariant_of-result : goal.invariant_of-result
invariant_of-result g c = let s = c.split-number.ensures in split_pass _ _ c.pass.inside.seat c.split-number.result.1 c.pass.invariant s.number s.split_off s.accounted

pub returns-clause-accounted : goal.returns-clause-accounted
returns-clause-accounted g c =
    let s = c.split-number.ensures in (
      subst (λ m. Begins m.0.opening m.0.seen × AreExact (after m.0.opening m.0.seen) ((c.pass.inside.number, own_of m.0.accounts) ∷ gathered_of m.0.accounts)) (sym s.stays) c.pass.invariant.accounted,
      (split_pass _ _ c.pass.inside.seat c.split-number.result.1 c.pass.invariant s.number s.split_off s.accounted).accounted,
    )
