use Rattle.std.proofs.Common.{◌≡◌, ◌++◌, map}
use Rattle.store_api.specs.History.{entry_of}
use Rattle.memory_store.proofs.listing.pairs_of.Given as goal

-- the pairs so far and those that are left are all
abbrev pub invariant-loop-key : goal.invariant-loop-key
invariant-loop-key l = map entry_of l.pairs.items ++ l.key-iterator ≡ l.fn.found.entries
