use Rattle.std.proofs.Common.{◌∙◌, ◌++◌, sym, ap, subst, List, map, length, All, arith}
use Rattle.std.specs.Vec.Iter.{into_iter_items}
use Rattle.store_api.specs.History.{entry_of}
use Rattle.relist_merge.specs.Given.{IsReading, pair_of}
use Rattle.relist_merge.specs.declared.delivery.ReadPair.{ReadPair}
use Rattle.store_api.specs.declared.change.Pair.{Pair}
use Rattle.relist_merge.proofs.ReadLists.{all-more, grown}
use Rattle.relist_merge.proofs.reads.read_pairs.Goals as goal

pub loop-pair-preserved : goal.loop-pair-preserved
loop-pair-preserved c =
    let items = c.in-Some.ensures.steps.0 in
    let pushed = c.in_ok-push.ensures.items in
    let long = ap length items in (
      ap (λ (l : List ReadPair). map pair_of l ++ map entry_of (into_iter_items c.next.new.self)) pushed
          ∙ grown pair_of c.loop-pair.made.items c.in_ok-read_one.field-0 (entry_of c.in-Some.pair) (map entry_of (into_iter_items c.next.new.self)) (λ i. (c.in_ok-read_one.ensures.key i, c.in_ok-read_one.ensures.value i))
          ∙ ap (λ (l : List Pair). map pair_of c.loop-pair.made.items ++ map entry_of l) (sym items) ∙ c.loop-pair.invariant.0,
      subst (All (IsReading c.args.limit)) (sym pushed) (all-more (IsReading c.args.limit) c.loop-pair.made.items c.in_ok-read_one.field-0 c.loop-pair.invariant.1 c.in_ok-read_one.ensures.read),
      omega (arith, long, c.loop-pair.invariant.2, c.in-Some.ensures.steps.1),
    )
