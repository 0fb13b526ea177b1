use Rattle.std.proofs.Common.{suc}
use Rattle.memory_store.specs.Kept.{history_in}
use Rattle.memory_store.proofs.Logs.{IsCurrentAt}
use Rattle.memory_store.proofs.live.live_after.Given as goal

-- what is live at the revision before this one
abbrev pub invariant-loop-made : goal.invariant-loop-made
invariant-loop-made l = IsCurrentAt (history_in l.history) (suc l.made-index) l.current
