use Rattle.std.proofs.Common.{◌+◌, arith}
use Rattle.memory_store.proofs.Logs.{current_next, current_all}
use Rattle.memory_store.proofs.live.live_after.Goals as goal

pub loop-made-preserved : goal.loop-made-preserved
loop-made-preserved c =
    current_next c.args.history.now c.loop-made.made-index (c.loop-made.made-index + 1) c.made-item.result c.as_slice.result.now c.loop-made.current c.apply_changes.new.current
    c.loop-made-test.true c.made-item.is (omega arith) c.as_slice.ensures c.loop-made.invariant c.in_ok-apply_changes.ensures

pub returns : goal.returns
returns c = current_all c.args.history.now c.loop-made.made-index c.loop-made.current (omega arith) c.loop-made.invariant
