use Rattle.std.proofs.Common.{◌≡◌, ◌≤◌, length, map, All}
use Rattle.std.specs.Vec.Iter.{into_iter_items, into_iter_len}
use Rattle.relist_merge.specs.Given.{IsReading, pair_of}
use Rattle.relist_merge.specs.Sight.{viewed}
use Rattle.relist_merge.specs.View.{put_of}
use Rattle.relist_merge.specs.Viewed.{with_edits}
use Rattle.relist_merge.proofs.view.View.put_all.Given as goal

abbrev pub invariant-loop-pair : goal.invariant-loop-pair
invariant-loop-pair l =
    (with_edits (map put_of (map pair_of (into_iter_items l.pair-iterator))) (viewed l.self) ≡ with_edits (map put_of (map pair_of l.fn.pairs)) (viewed l.fn.self))
    × (length (into_iter_items l.pair-iterator) ≤ (viewed l.self).room)
    × All (IsReading (viewed l.fn.self).source.limit) (into_iter_items l.pair-iterator)
    × ((viewed l.self).source ≡ (viewed l.fn.self).source)
    × (into_iter_len l.pair-iterator ≡ length (into_iter_items l.pair-iterator))
