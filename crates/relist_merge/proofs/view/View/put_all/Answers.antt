use Rattle.std.proofs.Common.{◌∙◌, sym, ap, List, map, length, arith}
use Rattle.std.specs.Vec.Iter.{into_iter_items}
use Rattle.relist_merge.specs.Given.{IsReading, pair_of}
use Rattle.relist_merge.specs.Sight.{viewed}
use Rattle.relist_merge.specs.View.{put_of}
use Rattle.relist_merge.specs.Viewed.{Viewed, with_edits}
use Rattle.relist_merge.specs.declared.delivery.ReadPair.{ReadPair}
use Rattle.relist_merge.proofs.Viewing.{all-rest}
use Rattle.relist_merge.proofs.view.View.put_all.Goals as goal

pub loop-pair-preserved : goal.loop-pair-preserved
loop-pair-preserved c =
    let items = c.in-Some.ensures.steps.0 in
    let long = ap length items in (
      ap (with_edits (map put_of (map pair_of (into_iter_items c.next.new.self)))) c.put.ensures ∙ ap (λ (l : List ReadPair). with_edits (map put_of (map pair_of l)) (viewed c.loop-pair.self)) (sym items) ∙ c.loop-pair.invariant.0,
      omega (arith, long, c.loop-pair.invariant.1, ap (λ (v : Viewed). v.room) c.put.ensures),
      all-rest (IsReading c.args.self.now.limit) _ _ _ items c.loop-pair.invariant.2,
      ap (λ (v : Viewed). v.source) c.put.ensures ∙ c.loop-pair.invariant.3,
      omega (arith, long, c.loop-pair.invariant.4, c.in-Some.ensures.steps.1),
    )
