use Rattle.std.proofs.Common.{arith}
use Rattle.std.proofs.lemmas.Grind.{common_steps}
use Rattle.scenario_lang.proofs.Splits.{split_first, split_whole}
use Rattle.scenario_lang.proofs.splitting.piece.Goals as goal

pub returns-then-b-separator-clause-pieces : goal.returns-then-b-separator-clause-pieces
returns-then-b-separator-clause-pieces c =
    let e = split_first c.args.separator c.args.bytes.now c.loop-n.n (omega arith) c.loop-n.invariant c.if-b-separator.true in grind (arith, common_steps, e)

pub returns-clause-pieces : goal.returns-clause-pieces
returns-clause-pieces c = split_whole c.args.separator c.args.bytes.now (λ k h. c.loop-n.invariant k (omega arith))
