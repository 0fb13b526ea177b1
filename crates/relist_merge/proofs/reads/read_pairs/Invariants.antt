use Rattle.std.proofs.Common.{◌≡◌, ◌++◌, length, map, All}
use Rattle.std.specs.Vec.Iter.{into_iter_items, into_iter_len}
use Rattle.store_api.specs.History.{entry_of}
use Rattle.relist_merge.specs.Given.{IsReading, pair_of}
use Rattle.relist_merge.proofs.reads.read_pairs.Given as goal

abbrev pub invariant-loop-pair : goal.invariant-loop-pair
invariant-loop-pair l =
    (map pair_of l.made.items ++ map entry_of (into_iter_items l.pair-iterator) ≡ map entry_of l.fn.pairs)
    × All (IsReading l.fn.limit) l.made.items
    × (into_iter_len l.pair-iterator ≡ length (into_iter_items l.pair-iterator))
