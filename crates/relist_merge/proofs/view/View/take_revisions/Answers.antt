use Rattle.std.proofs.Common.{◌∙◌, sym, ap, List, map, length, arith}
use Rattle.std.proofs.lemmas.List.Sums.{sum_by-cons}
use Rattle.std.specs.List.{sum_by}
use Rattle.std.specs.Vec.Iter.{into_iter_items}
use Rattle.relist_merge.specs.Given.{AreChangesRead, edits_in}
use Rattle.relist_merge.specs.Sight.{viewed}
use Rattle.relist_merge.specs.View.{finished, with_parts}
use Rattle.relist_merge.specs.Viewed.{Source, Viewed, followed}
use Rattle.relist_merge.specs.declared.delivery.ReadRevision.{ReadRevision}
use Rattle.relist_merge.proofs.Viewing.{all-rest}
use Rattle.relist_merge.proofs.view.View.take_revisions.Goals as goal

pub loop-revision-preserved : goal.loop-revision-preserved
loop-revision-preserved c =
    let items = c.in-Some.ensures.steps.0 in
    let long = ap length items in
    let changes = λ (r : ReadRevision). length r.changes in
    let room = ap (sum_by (λ (r : ReadRevision). length r.changes)) items ∙ sum_by-cons (λ (r : ReadRevision). length r.changes) c.in-Some.revision (into_iter_items c.next.new.self) in
    let finish_room = ap (λ (v : Viewed). v.room) c.finish_sync.ensures.view in
    let source_is = c.apply_revision.ensures.source ∙ c.loop-revision.invariant.4 in
    let step = ap (λ (v : Viewed). v.shown) c.finish_sync.ensures.view
    ∙ ap (λ (s : Source). finished (followed s) (viewed c.apply_revision.new.self).shown) source_is
    ∙ ap (finished (followed (viewed c.args.self.now).source)) c.apply_revision.ensures.view in (
      ap (with_parts (followed (viewed c.args.self.now).source) (map edits_in (into_iter_items c.next.new.self))) step
          ∙ ap (λ (l : List ReadRevision). with_parts (followed (viewed c.args.self.now).source) (map edits_in l) (viewed c.loop-revision.self).shown) (sym items)
          ∙ c.loop-revision.invariant.0,
      omega (arith, room, c.loop-revision.invariant.1, c.apply_revision.ensures.room, finish_room),
      omega (arith, room, c.loop-revision.invariant.2, c.apply_revision.ensures.room, finish_room),
      all-rest (AreChangesRead c.args.self.now.limit) _ _ _ items c.loop-revision.invariant.3,
      ap (λ (v : Viewed). v.source) c.finish_sync.ensures.view ∙ source_is,
      omega (arith, long, c.loop-revision.invariant.5, c.in-Some.ensures.steps.1),
    )
