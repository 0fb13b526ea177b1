use Rattle.std.proofs.Common.{◌≡◌, ◌<◌, ◌+◌, ◌++◌, ◌∷◌, [], ℕ, List, Vec, Global, length, drop, get_or, replicate, ap, sym, ◌∙◌, subst, arith}
use Rattle.std.proofs.lemmas.Bool.Decides.{nat_tests}
use Rattle.std.proofs.lemmas.Grind.{common_steps}
use Rattle.std.proofs.lemmas.List.{drop_more}
use Rattle.store_api.specs.Attached.{all_lapsed}
use Rattle.store_api.specs.History.{History}
use Rattle.store_api.specs.declared.change.Change.{Change}
use Rattle.memory_store.specs.declared.live.Made.{Made}
use Rattle.memory_store.specs.Kept.{IsCurrentIn, history_in, writers_in}
use Rattle.memory_store.proofs.Expiry.{Lapsing, lapsing_some, lapsing_none}
use Rattle.memory_store.proofs.Logs.{history_pushed}
use Rattle.memory_store.proofs.Writing.{writers_pushed}
use Rattle.memory_store.proofs.lapses.lapses.Goals as goal
use Rattle.memory_store.proofs.lapses.lapses.Goals.{then-not-is_empty+in_ok-push, else-not-is_empty}

lapsing : (c : goal.Joined-not-is_empty) (history : History) → IsCurrentIn history c.args.current.now → Lapsing (history ++ history_in c.if-not-is_empty.made.items) (drop (c.loop-lease.lease-index + 1) c.args.leases.now) history c.args.leases.now c.lapse.new.current
lapsing c history current =
    let i = c.loop-lease.lease-index in
    let all : List ℕ = c.args.leases.now in
    let lease : ℕ = get_or all i 0 in
    let left : List ℕ = drop (i + 1) all in
    let before = c.loop-lease.invariant.lapsing history current in
    let made : History = history_in c.loop-lease.made.items in
    let same : all_lapsed (history ++ made) (lease ∷ left) ≡ all_lapsed history all = ap (all_lapsed (history ++ made)) (sym (drop_more all i 0 c.loop-lease-test.true)) ∙ before.same in
    let lapses = c.in_ok-changes.ensures (history ++ made) before.live in
    elim c.if-not-is_empty.branch [
      | then-not-is_empty+in_ok-push w ↦
          let some : 0 < length c.in_ok-changes.changes.items = (let h = w.if-not-is_empty.true in grind (arith, common_steps, nat_tests)) in
          let one : Made = record { writer = c.args.writer; changes = w.from_vec-changes.result } in
          let pushed : history_in c.if-not-is_empty.made.items ≡ made ++ c.in_ok-changes.changes.items ∷ [] =
          ap (λ (v : Vec Made Global). history_in v.items) w.made-is ∙ ap history_in w.in_ok-push.ensures.items ∙ history_pushed c.loop-lease.made.items one ∙ ap (λ (cs : List Change). made ++ cs ∷ []) w.from_vec-changes.ensures in
          subst (λ (h : History). Lapsing (history ++ h) left history all c.lapse.new.current) (sym pushed) (lapsing_some history made lease left all c.in_ok-changes.changes.items c.lapse.new.current same lapses some)
      | else-not-is_empty w ↦
          let none : length c.in_ok-changes.changes.items ≡ 0 = (let h = w.if-not-is_empty.false in grind (arith, common_steps, nat_tests)) in
          subst (λ (v : Vec Made Global). Lapsing (history ++ history_in v.items) left history all c.lapse.new.current) (sym w.made-is) (lapsing_none history made lease left all c.in_ok-changes.changes.items c.lapse.new.current same lapses none)
    ]

written : (c : goal.Joined-not-is_empty) → writers_in c.if-not-is_empty.made.items ≡ replicate (length c.if-not-is_empty.made.items) c.args.writer
written c =
    elim c.if-not-is_empty.branch [
      | then-not-is_empty+in_ok-push w ↦
          let one : Made = record { writer = c.args.writer; changes = w.from_vec-changes.result } in
          subst (λ (made : List Made). writers_in made ≡ replicate (length made) c.args.writer) (sym (ap (λ (v : Vec Made Global). v.items) w.made-is ∙ w.in_ok-push.ensures.items))
          (writers_pushed c.loop-lease.made.items one c.loop-lease.invariant.writers)
      | else-not-is_empty w ↦ subst (λ (v : Vec Made Global). writers_in v.items ≡ replicate (length v.items) c.args.writer) (sym w.made-is) c.loop-lease.invariant.writers
    ]

pub loop-lease-preserved : goal.loop-lease-preserved
loop-lease-preserved c = record { lapsing = lapsing c; writers = written c }
