use Rattle.std.proofs.Common.{rules, ap}
use Rattle.turn_cell.proofs.Passes.{join_known, join_traced}
use Rattle.turn_cell.proofs.cell.TurnCell.join.Goals as goal

pub returns-clause-joined : goal.returns-clause-joined
returns-clause-joined g c = join_known _ _ c.pass.inside.seat c.other.inside.seat c.join.new.seat _ _ c.pass.invariant.numbered c.other.invariant.numbered c.join.ensures.own.0 (ap (λ m. m.0) c.join.ensures.joined) c.pass.view_is c.other.view_is

pub invariant_of-pass : goal.invariant_of-pass
invariant_of-pass g c =
    let known = join_known _ _ c.pass.inside.seat c.other.inside.seat c.join.new.seat _ _ c.pass.invariant.numbered c.other.invariant.numbered c.join.ensures.own.0 (ap (λ m. m.0) c.join.ensures.joined) c.pass.view_is c.other.view_is in record {
      holds = search rules;
      settled = search rules;
      numbered = search rules;
      leads = search rules;
      fixed = search rules;
      accounted = search rules;
      traced = join_traced _ _ c.args.other _ c.pass.invariant.traced c.pass.view_is known c.join.ensures.begins.0;
    }

pub returns-clause-traced : goal.returns-clause-traced
returns-clause-traced g c =
    let known = join_known _ _ c.pass.inside.seat c.other.inside.seat c.join.new.seat _ _ c.pass.invariant.numbered c.other.invariant.numbered c.join.ensures.own.0 (ap (λ m. m.0) c.join.ensures.joined) c.pass.view_is c.other.view_is in
    join_traced _ _ c.args.other _ c.pass.invariant.traced c.pass.view_is known c.join.ensures.begins.0
