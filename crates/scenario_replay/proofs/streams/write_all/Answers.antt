use Rattle.std.proofs.Common.{◌≡◌, ◌+◌, ◌-◌, length, arith, take, drop, ◌++◌, sym, ◌∙◌, ap, subst, List, ℕ}
use Rattle.std.proofs.lemmas.List.{length-drop, take_rest}
use Rattle.std.proofs.Math.Seq.{take-add}
use Rattle.store_api.specs.Streams.{HoldsMore}
use Rattle.scenario_replay.proofs.StreamLemmas.{HoldsMore-trans}
use Rattle.scenario_replay.proofs.streams.write_all.Goals as goal

pub loop-done-preserved : goal.loop-done-preserved
loop-done-preserved g c =
    let bytes = c.args.bytes.now in
    let done = c.loop-done.done in
    let n = c.in_ok-taken.taken in
    let pieces : take done bytes ++ take n (take (length bytes - done) (drop done bytes)) ≡ take (done + n) bytes = ap (λ (l : List ℕ). take done bytes ++ take n l) (take_rest bytes done) ∙ sym (take-add done n bytes) in
    record {
      within = omega (arith, length-drop done bytes, ap length (take_rest bytes done), c.in_ok-taken.ensures.within);
      held = subst (λ (l : List ℕ). HoldsMore (g.W.Sink.holds c.args.sink.now) (g.W.Sink.holds c.write.new.self) l) pieces (HoldsMore-trans _ _ _ (take done bytes) _ c.loop-done.invariant.held c.in_ok-taken.ensures.appended);
      count = omega arith;
    }
