use Rattle.std.proofs.Common.{◌≡◌, ◌++◌, filter, drop}
use Rattle.store_api.specs.Followed.{changed_key}
use Rattle.store_api.specs.History.{in_ranges}
use Rattle.store_api.specs.declared.change.Change.{Change}
use Rattle.memory_store.proofs.watch.changes_in.Given as goal

-- the changes so far and those of what is left are those of all
abbrev pub invariant-loop-change : goal.invariant-loop-change
invariant-loop-change l =
    l.some.items ++ filter (λ (c : Change). in_ranges l.ranges.items (changed_key c)) (drop l.change-index l.changes) ≡ filter (λ (c : Change). in_ranges l.ranges.items (changed_key c)) l.changes
