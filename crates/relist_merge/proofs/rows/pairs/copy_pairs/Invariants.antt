use Rattle.std.proofs.Common.{◌≡◌, ◌++◌, map}
use Rattle.store_api.specs.History.{entry_of}
use Rattle.relist_merge.specs.Shown.{pair_of}
use Rattle.relist_merge.proofs.rows.pairs.copy_pairs.Given as goal

abbrev pub invariant-loop-key : goal.invariant-loop-key
invariant-loop-key l = map entry_of l.pairs ++ map pair_of l.key-iterator ≡ map pair_of l.rows.entries
