use Rattle.std.proofs.Common.{◌≡◌, ◌++◌, length, map, All}
use Rattle.std.specs.Vec.Iter.{into_iter_items, into_iter_len}
use Rattle.store_api.specs.Followed.{part_of}
use Rattle.relist_merge.specs.Deliveries.{edits_of}
use Rattle.relist_merge.specs.Given.{AreChangesRead, edits_in}
use Rattle.relist_merge.proofs.reads.read_revisions.Given as goal

abbrev pub invariant-loop-revision : goal.invariant-loop-revision
invariant-loop-revision l =
    (map edits_in l.made.items ++ map edits_of (map part_of (into_iter_items l.revision-iterator)) ≡ map edits_of (map part_of l.fn.revisions))
    × All (AreChangesRead l.fn.limit) l.made.items
    × (into_iter_len l.revision-iterator ≡ length (into_iter_items l.revision-iterator))
