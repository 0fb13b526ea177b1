use Rattle.std.proofs.Common.{◌≡◌, length, take}
use Rattle.std.specs.List.{sum_by}
use Rattle.relist_merge.specs.declared.delivery.ReadRevision.{ReadRevision}
use Rattle.relist_merge.proofs.counting.changes_in.Given as goal

abbrev pub invariant-loop-revision : goal.invariant-loop-revision
invariant-loop-revision l = l.sum ≡ sum_by (λ (r : ReadRevision). length r.changes) (take l.revision-index l.revisions)
