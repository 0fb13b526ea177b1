use Rattle.std.proofs.Common.{◌∙◌, ◌++◌, sym, ap, subst, List, map, length, All, arith}
use Rattle.std.specs.Vec.Iter.{into_iter_items}
use Rattle.store_api.specs.Followed.{part_of}
use Rattle.relist_merge.specs.Deliveries.{edits_of}
use Rattle.relist_merge.specs.Given.{AreChangesRead, edits_in}
use Rattle.relist_merge.specs.declared.delivery.ReadRevision.{ReadRevision}
use Rattle.store_api.specs.declared.change.Revision.{Revision}
use Rattle.relist_merge.proofs.ReadLists.{all-more, grown}
use Rattle.relist_merge.proofs.reads.read_revisions.Goals as goal

pub loop-revision-preserved : goal.loop-revision-preserved
loop-revision-preserved c =
    let items = c.in-Some.ensures.steps.0 in
    let pushed = c.in_ok-push.ensures.items in
    let long = ap length items in (
      ap (λ (l : List ReadRevision). map edits_in l ++ map edits_of (map part_of (into_iter_items c.next.new.self))) pushed
          ∙ grown edits_in c.loop-revision.made.items c.in_ok-read_revision.field-0 (edits_of (part_of c.in-Some.revision)) (map edits_of (map part_of (into_iter_items c.next.new.self))) c.in_ok-read_revision.ensures.same
          ∙ ap (λ (l : List Revision). map edits_in c.loop-revision.made.items ++ map edits_of (map part_of l)) (sym items) ∙ c.loop-revision.invariant.0,
      subst (All (AreChangesRead c.args.limit)) (sym pushed) (all-more (AreChangesRead c.args.limit) c.loop-revision.made.items c.in_ok-read_revision.field-0 c.loop-revision.invariant.1 c.in_ok-read_revision.ensures.read),
      omega (arith, long, c.loop-revision.invariant.2, c.in-Some.ensures.steps.1),
    )
