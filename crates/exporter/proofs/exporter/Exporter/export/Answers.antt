use Rattle.std.proofs.Common.{◌≡◌, ◌∙◌, ◌-◌, ◌+◌, ℕ, suc, length, Err, ap, sym, subst, add-one, arith}
use Rattle.store_api.specs.Calls.{Comes, on_store}
use Rattle.store_api.specs.Meaning.{Meaning}
use Rattle.store_api.proofs.Calls.{keeps_both}
use Rattle.exporter.specs.State.{Export, after_item, after_items, turns}
use Rattle.exporter.specs.Talks.{ExportTalk, export_talk}
use Rattle.exporter.specs.declared.fault.ExportFault.{ExportFault}
use Rattle.exporter.specs.declared.fault.ExportFault.TheVariants.{Memory}
use Rattle.exporter.proofs.Steps.{after_more, left_after}
use Rattle.exporter.proofs.Talking.{err_is, item_last, item_more, one_fault}
use Rattle.exporter.proofs.exporter.Exporter.export.Goals as goal

pub export_one-requires-clause-waiting : goal.export_one-requires-clause-waiting
export_one-requires-clause-waiting g c =
    let here : length c.loop-turn.self.queue ≡ length (after_items c.loop-turn._turn c.args.self.now).queue = ap (λ (s : Export). length s.queue) c.loop-turn.invariant.after in
    omega (arith, here, left_after c.loop-turn._turn c.args.self.now)

pub loop-turn-preserved : goal.loop-turn-preserved
loop-turn-preserved g c =
    let s : Export = c.args.self.now in
    let old : Meaning = g.S.Store.meaning c.args.store.now in
    let mid : Meaning = g.S.Store.meaning c.loop-turn.store in
    let new : Meaning = g.S.Store.meaning c.export_one.new.store in
    let k : ℕ = turns c.args.most s - (c.loop-turn._turn + 1) in
    let sees = g.S.Store.meaning in
    let through = g.S.Store.crossed in
    let talk : ExportTalk = export_talk (turns c.args.most s) s in
    let left : turns c.args.most s - c.loop-turn._turn ≡ suc k = omega (arith, c.loop-turn-test.true, c.min-done.ensures, c.left.ensures) in
    let so_far : Comes (on_store {W = Unit {0}} sees through) talk c.args.store.now (export_talk (suc k) c.loop-turn.self) c.loop-turn.store =
    subst (λ (n : ℕ). Comes (on_store {W = Unit {0}} sees through) talk c.args.store.now (export_talk n c.loop-turn.self) c.loop-turn.store) left
    (subst (λ (t : Export). Comes (on_store {W = Unit {0}} sees through) talk c.args.store.now (export_talk (turns c.args.most s - c.loop-turn._turn) t) c.loop-turn.store) (sym c.loop-turn.invariant.after) c.loop-turn.invariant.comes) in
    let after : after_item c.loop-turn.self ≡ after_items (c.loop-turn._turn + 1) s = ap after_item c.loop-turn.invariant.after ∙ after_more c.loop-turn._turn s ∙ ap (λ (n : ℕ). after_items n s) (sym (add-one c.loop-turn._turn)) in
    record {
      comes = subst (λ (t : Export). Comes (on_store {W = Unit {0}} sees through) talk c.args.store.now (export_talk k t) c.export_one.new.store) after
          (item_more sees through k talk c.loop-turn.self c.export_one.new.self c.args.store.now c.loop-turn.store c.export_one.new.store so_far (c.in_ok-export_one.ensures.talk (λ e. cc)));
      after = c.in_ok-export_one.ensures.after ∙ after;
      keeps = keeps_both old mid new c.loop-turn.invariant.keeps c.export_one.ensures.keeps;
      named = c.export_one.ensures.named ∙ c.loop-turn.invariant.named;
      loans = c.export_one.ensures.loans ∙ c.loop-turn.invariant.loans;
    }

pub returns-in_err-export_one-clause-talk : goal.returns-in_err-export_one-clause-talk
returns-in_err-export_one-clause-talk g c told =
    let s : Export = c.args.self.now in
    let k : ℕ = turns c.args.most s - (c.loop-turn._turn + 1) in
    let sees = g.S.Store.meaning in
    let through = g.S.Store.crossed in
    let talk : ExportTalk = export_talk (turns c.args.most s) s in
    let fault : ExportFault = c.in_err-export_one.field-0.0 in
    let is : c.from_residual.result ≡ Err fault = err_is c.from_residual.result fault c.from_residual.ensures.1 in
    let left : turns c.args.most s - c.loop-turn._turn ≡ suc k = omega (arith, c.loop-turn-test.true, c.min-done.ensures, c.left.ensures) in
    let so_far : Comes (on_store {W = Unit {0}} sees through) talk c.args.store.now (export_talk (suc k) c.loop-turn.self) c.loop-turn.store =
    subst (λ (n : ℕ). Comes (on_store {W = Unit {0}} sees through) talk c.args.store.now (export_talk n c.loop-turn.self) c.loop-turn.store) left
    (subst (λ (t : Export). Comes (on_store {W = Unit {0}} sees through) talk c.args.store.now (export_talk (turns c.args.most s - c.loop-turn._turn) t) c.loop-turn.store) (sym c.loop-turn.invariant.after) c.loop-turn.invariant.comes) in
    rw is
    (item_last sees through k talk c.loop-turn.self c.export_one.new.self fault c.args.store.now c.loop-turn.store c.export_one.new.store so_far
    (c.in_err-export_one.ensures.talk (λ e. told (is ∙ ap Err (one_fault c.export_one.result fault Memory c.in_err-export_one.was (c.in_err-export_one.was ∙ e))))))
