use Rattle.std.proofs.Common.{arith}
use Rattle.scenario_lang.proofs.TextLines.{line_taken, line_halted}
use Rattle.scenario_lang.proofs.lines.read_lines.Goals as goal

pub loop-more-preserved : goal.loop-more-preserved
loop-more-preserved c =
    let cut = rw c.in-Some.is at c.piece.ensures.pieces in
    let short = rw c.in-Some.is at c.piece.ensures.shorter in
    let so_far = c.loop-more.invariant.said in
    record {
      said = line_taken c.args.mode c.loop-more.draft _ c.loop-more.number c.piece.result.0.now c.loop-more.left.now c.in-Some.more.now _ cut c.in-Ok.ensures so_far;
      number = let b = c.loop-more.invariant.number in omega (arith, short, b);
    }

pub returns-in-Err : goal.returns-in-Err
returns-in-Err c =
    let cut = rw c.in-Some.is at c.piece.ensures.pieces in
    line_halted c.args.mode c.loop-more.draft c.loop-more.number c.piece.result.0.now c.loop-more.left.now c.in-Some.more.now c.in-Err.stop _ cut c.in-Err.ensures c.loop-more.invariant.said
