use Rattle.std.proofs.Common.{◌≡◌, drop}
use Rattle.store_api.specs.History.{in_ranges}
use Rattle.memory_store.proofs.watch.is_in_any.Given as goal

-- what is left has the key exactly where some range has it
abbrev pub invariant-loop-range : goal.invariant-loop-range
invariant-loop-range l = in_ranges (drop l.range-index l.fn.ranges.items) l.key ≡ in_ranges l.fn.ranges.items l.key
