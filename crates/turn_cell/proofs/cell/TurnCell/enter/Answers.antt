use Rattle.std.proofs.Common.{rules, ◌≡◌}
use Rattle.turn_cell.specs.Knowledge.{after_enter}
use Rattle.turn_cell.specs.Seats.{knowledge}
use Rattle.turn_cell.proofs.Passes.{enter_traced}
use Rattle.turn_cell.proofs.cell.TurnCell.enter.Goals as goal

pub invariant_of-pass : goal.invariant_of-pass
invariant_of-pass g c =
    let known : knowledge c.pass.inside.number c.enter.new.seat ≡ after_enter c.args.pass.now (g.T.Kept.log c.enter.result) = search rules in record {
      holds = search rules;
      settled = search rules;
      numbered = search rules;
      leads = search rules;
      fixed = search rules;
      accounted = search rules;
      traced = enter_traced _ _ _ _ c.pass.invariant.traced c.pass.view_is known c.enter.ensures.came_in.1;
    }

pub returns-clause-traced : goal.returns-clause-traced
returns-clause-traced g c =
    let known : knowledge c.pass.inside.number c.enter.new.seat ≡ after_enter c.args.pass.now (g.T.Kept.log c.enter.result) = search rules in
    enter_traced _ _ _ _ c.pass.invariant.traced c.pass.view_is known c.enter.ensures.came_in.1
