use Rattle.std.proofs.Common.{◌∙◌, ◌++◌, sym, ap, subst, List, map, length, All, arith}
use Rattle.std.specs.Vec.Iter.{into_iter_items}
use Rattle.relist_merge.specs.Deliveries.{edit_of}
use Rattle.relist_merge.specs.Given.{IsChangeRead, edit_in}
use Rattle.relist_merge.specs.declared.delivery.ReadChange.{ReadChange}
use Rattle.store_api.specs.declared.change.Change.{Change}
use Rattle.relist_merge.proofs.ReadLists.{all-more, grown}
use Rattle.relist_merge.proofs.reads.read_changes.Goals as goal

pub loop-change-preserved : goal.loop-change-preserved
loop-change-preserved c =
    let items = c.in-Some.ensures.steps.0 in
    let pushed = c.in_ok-push.ensures.items in
    let long = ap length items in (
      ap (λ (l : List ReadChange). map edit_in l ++ map edit_of (into_iter_items c.next.new.self)) pushed
          ∙ grown edit_in c.loop-change.made.items c.in_ok-read_change.field-0 (edit_of c.in-Some.change) (map edit_of (into_iter_items c.next.new.self)) c.in_ok-read_change.ensures.same
          ∙ ap (λ (l : List Change). map edit_in c.loop-change.made.items ++ map edit_of l) (sym items) ∙ c.loop-change.invariant.0,
      subst (All (IsChangeRead c.args.limit)) (sym pushed) (all-more (IsChangeRead c.args.limit) c.loop-change.made.items c.in_ok-read_change.field-0 c.loop-change.invariant.1 c.in_ok-read_change.ensures.read),
      omega (arith, long, c.loop-change.invariant.2, c.in-Some.ensures.steps.1),
    )
