use Rattle.std.proofs.Common.{rules, ap, ◌∙◌}
use Rattle.turn_cell.specs.Knowledge.{found_lengths}
use Rattle.turn_cell.proofs.Passes.{turn_known, turn_traced, found_append}
use Rattle.turn_cell.proofs.cell.TurnCell.leave.Goals as goal

pub returns-clause-left : goal.returns-clause-left
returns-clause-left g c = turn_known _ c.pass.inside.seat c.leave.new.seat _ _ c.pass.invariant.numbered c.leave.ensures.own.0 (ap (λ m. m.0) c.leave.ensures.left.0) c.pass.view_is

pub returns-clause-trace : goal.returns-clause-trace
returns-clause-trace g c =
    let known = turn_known _ c.pass.inside.seat c.leave.new.seat _ _ c.pass.invariant.numbered c.leave.ensures.own.0 (ap (λ m. m.0) c.leave.ensures.left.0) c.pass.view_is in
    ap (λ k. found_lengths k.trace) known ∙ found_append c.args.pass.now.trace (c.args.pass.now.seen, g.T.Kept.log c.args.value)

pub invariant_of-pass : goal.invariant_of-pass
invariant_of-pass g c =
    let known = turn_known _ c.pass.inside.seat c.leave.new.seat _ _ c.pass.invariant.numbered c.leave.ensures.own.0 (ap (λ m. m.0) c.leave.ensures.left.0) c.pass.view_is in let adds = c.requires.adds in record {
      holds = search rules;
      settled = search rules;
      numbered = search rules;
      leads = search rules;
      fixed = search rules;
      accounted = search rules;
      traced = turn_traced _ _ _ _ c.pass.invariant.traced c.pass.view_is known (adds.0, adds.1);
    }

pub returns-clause-traced : goal.returns-clause-traced
returns-clause-traced g c =
    let known = turn_known _ c.pass.inside.seat c.leave.new.seat _ _ c.pass.invariant.numbered c.leave.ensures.own.0 (ap (λ m. m.0) c.leave.ensures.left.0) c.pass.view_is in let adds = c.requires.adds in
    turn_traced _ _ _ _ c.pass.invariant.traced c.pass.view_is known (adds.0, adds.1)
