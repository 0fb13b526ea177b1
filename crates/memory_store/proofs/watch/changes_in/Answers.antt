use Rattle.std.proofs.Common.{◌≡◌, Vec, Global, ◌+◌, ◌∷◌, ◌++◌, List, [], Bool, filter, drop, ap, sym, ◌∙◌, subst}
use Rattle.std.proofs.lemmas.List.{drop_more}
use Rattle.store_api.specs.Followed.{changed_key}
use Rattle.store_api.specs.History.{in_ranges}
use Rattle.store_api.specs.declared.change.Change.{Change}
use Rattle.memory_store.proofs.Watched.{taken, passed}
use Rattle.memory_store.proofs.watch.changes_in.Goals as goal
use Rattle.memory_store.proofs.watch.changes_in.Goals.{then-is_in_any+in_ok-copy_of+in_ok-push, else-is_in_any}

pub loop-change-preserved : goal.loop-change-preserved
loop-change-preserved c =
    let p : Change → Bool = λ (x : Change). in_ranges c.args.ranges.now.items (changed_key x) in
    let one : Change = c.change-item.result in
    let rest = drop (c.loop-change.change-index + 1) c.args.changes.now in
    let next : drop c.loop-change.change-index c.args.changes.now ≡ one ∷ rest = drop_more c.args.changes.now c.loop-change.change-index one c.loop-change-test.true ∙ ap (λ (x : Change). x ∷ rest) (sym c.change-item.is) in
    let left : c.loop-change.some.items ++ filter p (one ∷ rest) ≡ filter p c.args.changes.now = subst (λ (l : List Change). c.loop-change.some.items ++ filter p l ≡ filter p c.args.changes.now) next c.loop-change.invariant in
    let test : c.is_in_any.result ≡ p one = c.is_in_any.ensures ∙ ap (in_ranges c.args.ranges.now.items) c.key_of.ensures in
    elim c.if-is_in_any.branch [
      | then-is_in_any+in_ok-copy_of+in_ok-push w ↦
          ap (λ (v : Vec Change Global). v.items ++ filter p rest) w.some-is
          ∙ ap (λ (l : List Change). l ++ filter p rest) (w.in_ok-push.ensures.items ∙ ap (λ (x : Change). c.loop-change.some.items ++ x ∷ []) w.in_ok-copy_of.ensures)
          ∙ taken p c.loop-change.some.items rest c.args.changes.now one left (sym test ∙ w.if-is_in_any.true)
      | else-is_in_any w ↦ ap (λ (v : Vec Change Global). v.items ++ filter p rest) w.some-is ∙ passed p c.loop-change.some.items rest c.args.changes.now one left (sym test ∙ w.if-is_in_any.false)
    ]
