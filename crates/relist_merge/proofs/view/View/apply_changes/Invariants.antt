use Rattle.std.proofs.Common.{◌≡◌, ◌≤◌, length, map, All}
use Rattle.std.specs.Vec.Iter.{into_iter_items, into_iter_len}
use Rattle.relist_merge.specs.Given.{IsChangeRead, edit_in}
use Rattle.relist_merge.specs.Sight.{viewed}
use Rattle.relist_merge.specs.Viewed.{with_edits}
use Rattle.relist_merge.proofs.view.View.apply_changes.Given as goal

abbrev pub invariant-loop-change : goal.invariant-loop-change
invariant-loop-change l =
    (with_edits (map edit_in (into_iter_items l.change-iterator)) (viewed l.self) ≡ with_edits (map edit_in l.fn.changes) (viewed l.fn.self))
    × (length (into_iter_items l.change-iterator) ≤ (viewed l.self).room)
    × All (IsChangeRead (viewed l.fn.self).source.limit) (into_iter_items l.change-iterator)
    × ((viewed l.self).source ≡ (viewed l.fn.self).source)
    × (into_iter_len l.change-iterator ≡ length (into_iter_items l.change-iterator))
