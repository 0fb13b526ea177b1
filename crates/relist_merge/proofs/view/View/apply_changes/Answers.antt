use Rattle.std.proofs.Common.{◌∙◌, sym, ap, List, map, length, arith}
use Rattle.std.specs.Vec.Iter.{into_iter_items}
use Rattle.relist_merge.specs.Given.{IsChangeRead, edit_in}
use Rattle.relist_merge.specs.Sight.{viewed}
use Rattle.relist_merge.specs.Viewed.{Viewed, with_edits}
use Rattle.relist_merge.specs.declared.delivery.ReadChange.{ReadChange}
use Rattle.relist_merge.proofs.Viewing.{all-rest, cost-one}
use Rattle.relist_merge.proofs.view.View.apply_changes.Goals as goal

pub loop-change-preserved : goal.loop-change-preserved
loop-change-preserved c =
    let items = c.in-Some.ensures.steps.0 in
    let long = ap length items in (
      ap (with_edits (map edit_in (into_iter_items c.next.new.self))) c.apply.ensures ∙ ap (λ (l : List ReadChange). with_edits (map edit_in l) (viewed c.loop-change.self)) (sym items) ∙ c.loop-change.invariant.0,
      omega (arith, long, c.loop-change.invariant.1, ap (λ (v : Viewed). v.room) c.apply.ensures, cost-one (edit_in c.in-Some.change)),
      all-rest (IsChangeRead c.args.self.now.limit) _ _ _ items c.loop-change.invariant.2,
      ap (λ (v : Viewed). v.source) c.apply.ensures ∙ c.loop-change.invariant.3,
      omega (arith, long, c.loop-change.invariant.4, c.in-Some.ensures.steps.1),
    )
