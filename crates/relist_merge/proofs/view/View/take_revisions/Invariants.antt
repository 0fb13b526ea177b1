use Rattle.std.proofs.Common.{◌≡◌, ◌+◌, ◌≤◌, length, map, All}
use Rattle.std.specs.List.{sum_by}
use Rattle.std.specs.Vec.Iter.{into_iter_items, into_iter_len}
use Rattle.relist_merge.specs.Given.{AreChangesRead, edits_in}
use Rattle.relist_merge.specs.Sight.{viewed}
use Rattle.relist_merge.specs.View.{with_parts}
use Rattle.relist_merge.specs.Viewed.{followed}
use Rattle.relist_merge.specs.declared.delivery.ReadRevision.{ReadRevision}
use Rattle.relist_merge.proofs.view.View.take_revisions.Given as goal

abbrev pub invariant-loop-revision : goal.invariant-loop-revision
invariant-loop-revision l =
    (with_parts (followed (viewed l.fn.self).source) (map edits_in (into_iter_items l.revision-iterator)) (viewed l.self).shown ≡ with_parts (followed (viewed l.fn.self).source) (map edits_in l.fn.revisions) (viewed l.fn.self).shown)
    × (sum_by (λ (r : ReadRevision). length r.changes) (into_iter_items l.revision-iterator) ≤ (viewed l.self).room)
    × ((viewed l.fn.self).room + sum_by (λ (r : ReadRevision). length r.changes) (into_iter_items l.revision-iterator) ≤ (viewed l.self).room + sum_by (λ (r : ReadRevision). length r.changes) l.fn.revisions)
    × All (AreChangesRead (viewed l.fn.self).source.limit) (into_iter_items l.revision-iterator)
    × ((viewed l.self).source ≡ (viewed l.fn.self).source)
    × (into_iter_len l.revision-iterator ≡ length (into_iter_items l.revision-iterator))
