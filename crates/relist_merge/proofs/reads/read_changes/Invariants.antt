use Rattle.std.proofs.Common.{◌≡◌, ◌++◌, length, map, All}
use Rattle.std.specs.Vec.Iter.{into_iter_items, into_iter_len}
use Rattle.relist_merge.specs.Deliveries.{edit_of}
use Rattle.relist_merge.specs.Given.{IsChangeRead, edit_in}
use Rattle.relist_merge.proofs.reads.read_changes.Given as goal

abbrev pub invariant-loop-change : goal.invariant-loop-change
invariant-loop-change l =
    (map edit_in l.made.items ++ map edit_of (into_iter_items l.change-iterator) ≡ map edit_of l.fn.changes)
    × All (IsChangeRead l.fn.limit) l.made.items
    × (into_iter_len l.change-iterator ≡ length (into_iter_items l.change-iterator))
