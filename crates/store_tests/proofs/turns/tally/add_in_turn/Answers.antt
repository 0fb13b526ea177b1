use Rattle.std.proofs.Common.{◌≡◌, ℕ, [], ◌∷◌, ◌++◌, sym, ap, ◌∙◌}
use Rattle.std.specs.Prelude.{Result, Ok, Err, OnOk, OnErr}
use Rattle.std.proofs.lemmas.List.{append-nil}
use Rattle.turn_cell.specs.Logs.{Log, AddsOwn}
use Rattle.store_tests.proofs.turns.tally.add_in_turn.Goals as goal

-- one own entry was added, or none
one_or_none : {X Y E : Type 0} (n m : ℕ) (e : E) (r : Result X Y) (found old new : Log E) → m ≡ n → found ≡ old → OnOk r (new ≡ old ++ (m, e) ∷ []) → OnErr r (new ≡ old) → AddsOwn n found new
one_or_none n m e (Ok x) found old new own is ok err = ((m, e) ∷ [], ok ∙ ap (λ l. l ++ (m, e) ∷ []) (sym is), (own, tt))
one_or_none n m e (Err y) found old new own is ok err = ([], (err ∙ sym is) ∙ sym (append-nil found), tt)

pub leave-requires-clause-adds : goal.leave-requires-clause-adds
leave-requires-clause-adds g c =
    one_or_none c.enter-tally.new.pass.number c.number.result c.args.number c.add.result c.enter-tally.new.pass.seen c.enter-tally.result.log c.add.new.self.log c.number.ensures.number
    (ap (λ k. k.seen) c.enter-tally.ensures.entered) c.add.ensures.ok c.add.ensures.err
