-- What contracts see of a pass, after each call.
use Rattle.std.proofs.Common.{◌≡◌, ℕ, ◌+◌, ◌==◌, false, List, [], ◌∷◌, ◌++◌, length, sym, refl, ap, ◌∙◌, subst, arith, Option, Some, ne_eqb, append_assoc, length-append}
use Rattle.std.proofs.lemmas.List.{append-nil}
use Rattle.std.specs.Prelude.{IsSome}
use mathlib.Core.Option.{some}
use lib.ListN.{get_elem?}
use Rattle.atomic_table.specs.Table.{Me, Final, Seen}
use Rattle.atomic_table.specs.declared.shared.Seat.{Seat}
use Rattle.turn_cell.specs.declared.view.View.{View}
use Rattle.turn_cell.specs.declared.view.Stage.{Stage}
use Rattle.turn_cell.specs.declared.view.Stage.TheVariants.{Outside, Waiting, Inside}
use Rattle.turn_cell.specs.Logs.{Log, Account, Begins, Each, after, longer, AreExact, grown, account_count}
use Rattle.turn_cell.specs.Knowledge.{Knowledge, accounts_of, after_enter, after_turn, after_join, found_lengths, added_in, AreInTurn, IsTraced, HasAll}
use Rattle.turn_cell.specs.Rule.{TurnRule}
use Rattle.turn_cell.specs.Steps.{view_after_turn, view_numbered, view_split_off, view_joined, view_heard, ViewAccounted}
use Rattle.turn_cell.specs.Seats.{is_inside, own_of, gathered_of, IsSettled, IsNumbered, HoldsAt, knowledge, IsPass}
use Rattle.turn_cell.proofs.Lists.{each_right, begins_self, begins_on}
use Rattle.turn_cell.proofs.Sharing.{closes}

own_grown : {E : Type 0} (es : Log E) (a : Account E) (others accounts : List (Account E)) → accounts ≡ a ∷ others → own_of (grown es accounts) ≡ own_of accounts ++ es
own_grown es a others accounts is = ap (λ z. own_of (grown es z)) is ∙ sym (ap (λ z. own_of z ++ es) is)

gathered_grown : {E : Type 0} (es : Log E) (accounts : List (Account E)) → gathered_of (grown es accounts) ≡ gathered_of accounts
gathered_grown es [] = refl
gathered_grown es (a ∷ others) = refl

own_append : {E : Type 0} (a : Account E) (others accounts more : List (Account E)) → accounts ≡ a ∷ others → own_of (accounts ++ more) ≡ own_of accounts
own_append a others accounts more is = ap (λ z. own_of (z ++ more)) is ∙ sym (ap own_of is)

gathered_append : {E : Type 0} (a : Account E) (others accounts more : List (Account E)) → accounts ≡ a ∷ others → gathered_of (accounts ++ more) ≡ gathered_of accounts ++ more
gathered_append a others accounts more is = ap (λ z. gathered_of (z ++ more)) is ∙ sym (ap (λ z. gathered_of z ++ more) is)

-- between turns
stage_idle : {T : Type 0} (st : Stage) (slots : List (ℕ × Option T)) → is_inside st ≡ false → HoldsAt st slots → (st ≡ Outside) × (slots ≡ [])
stage_idle Outside slots out h = (refl, h)
stage_idle (Waiting t) slots out h = absurd h
stage_idle (Inside t) slots out h = absurd (cc)

pub found_append : {E : Type 0} (a : List (Log E × Log E)) (turn : Log E × Log E) → found_lengths (a ++ turn ∷ []) ≡ found_lengths a ++ length turn.0 ∷ []
found_append [] turn = refl
found_append (t ∷ ts) turn = ap (λ l. length t.0 ∷ l) (found_append ts turn)

module _ {E : Type 0} where
  added_append : (turns : List (Log E × Log E)) (turn : Log E × Log E) → added_in (turns ++ turn ∷ []) ≡ added_in turns ++ after turn.0 turn.1
  added_append [] turn = append-nil (after turn.0 turn.1)
  added_append (t ∷ ts) turn = ap (λ (l : Log E). after t.0 t.1 ++ l) (added_append ts turn) ∙ sym (append_assoc (after t.0 t.1) (added_in ts) (after turn.0 turn.1))

  -- the turns stay in turn where the log seen has grown
  in_turn_on : (turns : List (Log E × Log E)) (seen now : Log E) → AreInTurn turns seen → Begins seen now → AreInTurn turns now
  in_turn_on [] seen now are b = tt
  in_turn_on (t ∷ []) seen now are b = (are.0, begins_on t.1 seen now are.1 b, tt)
  in_turn_on (t ∷ u ∷ us) seen now are b = (are.0, are.1, in_turn_on (u ∷ us) seen now are.2 b)

  -- one turn more
  in_turn_more : (turns : List (Log E × Log E)) (seen left : Log E) → AreInTurn turns seen → Begins seen left → AreInTurn (turns ++ (seen, left) ∷ []) left
  in_turn_more [] seen left are b = (b, begins_self left, tt)
  in_turn_more (t ∷ []) seen left are b = (are.0, are.1, in_turn_more [] seen left tt b)
  in_turn_more (t ∷ u ∷ us) seen left are b = (are.0, are.1, in_turn_more (u ∷ us) seen left are.2 b)

module _ {E F : Type 0} where
  -- where the pass has seen more, and has made no turn, it is still traced
  sees_more : (k l : Knowledge E F) → IsTraced k → l.own ≡ k.own → l.trace ≡ k.trace → l.turns ≡ k.turns → Begins k.seen l.seen → IsTraced l
  sees_more k l is own trace turns b = record {
    own = own ∙ (is.own ∙ ap added_in (sym trace));
    in_turn = subst (λ (ts : List (Log E × Log E)). AreInTurn ts l.seen) (sym trace) (in_turn_on k.trace k.seen l.seen is.in_turn b);
    counted = turns ∙ (is.counted ∙ ap length (sym trace));
  }

  pub enter_traced : (k l m : Knowledge E F) (found : Log E) → IsTraced k → k ≡ l → m ≡ after_enter l found → Begins k.seen found → IsTraced m
  enter_traced k l m found is known step b =
      sees_more k m is (ap (λ z. z.own) step ∙ sym (ap (λ z. z.own) known)) (ap (λ z. z.trace) step ∙ sym (ap (λ z. z.trace) known)) (ap (λ z. z.turns) step ∙ sym (ap (λ z. z.turns) known))
      (subst (λ (s : Log E). Begins k.seen s) (sym (ap (λ z. z.seen) step)) b)

  pub join_traced : (k l other m : Knowledge E F) → IsTraced k → k ≡ l → m ≡ after_join l other → Begins k.seen m.seen → IsTraced m
  join_traced k l other m is known step b =
      sees_more k m is (ap (λ z. z.own) step ∙ sym (ap (λ z. z.own) known)) (ap (λ z. z.trace) step ∙ sym (ap (λ z. z.trace) known)) (ap (λ z. z.turns) step ∙ sym (ap (λ z. z.turns) known)) b

  -- after a turn it is traced with this turn behind the others
  turns_on : (k : Knowledge E F) (left : Log E) → IsTraced k → Begins k.seen left → IsTraced (after_turn k left)
  turns_on k left is b = record {
    own = ap (λ (l : Log E). l ++ after k.seen left) is.own ∙ sym (added_append k.trace (k.seen, left));
    in_turn = in_turn_more k.trace k.seen left is.in_turn b;
    counted = let c : k.turns ≡ length k.trace = is.counted in omega (arith, length-append k.trace ((k.seen, left) ∷ []));
  }

  pub turn_traced : (k l m : Knowledge E F) (left : Log E) → IsTraced k → k ≡ l → m ≡ after_turn l left → Begins l.seen left → IsTraced m
  turn_traced k l m left is known step b = subst (λ (z : Knowledge E F). IsTraced z) (sym step) (turns_on l left (subst (λ (z : Knowledge E F). IsTraced z) known is) b)

-- a pass's accounts are its own and those that it gathered
pub accounts_are : {E F : Type 0} (n : ℕ) (v : View E F) → IsNumbered n v → v.accounts ≡ (n, own_of v.accounts) ∷ gathered_of v.accounts
accounts_are n v has = has.2 ∙ (λ i. (n, sym (ap own_of has.2) i) ∷ sym (ap gathered_of has.2) i)

module _ {T E F : Type 0} where
  -- a turn, as contracts see it
  pub turn_known : (n : ℕ) (p q : Seat (Option T) (View E F)) (left : Log E) (k : Knowledge E F) → IsNumbered n p.me.0 → q.table_id ≡ p.table_id → q.me.0 ≡ view_after_turn p.me.0 left → knowledge n p ≡ k → knowledge n q ≡ after_turn k left
  turn_known n p q left k has table is known =
      let v : View E F = p.me.0 in let es : Log E = after v.seen left in
      let own : own_of (grown es v.accounts) ≡ own_of v.accounts ++ es = own_grown es (n, has.0) has.1 v.accounts has.2 in
      let gathered : gathered_of (grown es v.accounts) ≡ gathered_of v.accounts = gathered_grown es v.accounts in
      let step : knowledge n q ≡ after_turn (knowledge n p) left =
      λ i. record {
        cell = record { table = table i; opening = ap (λ z. z.opening) is i; fixed = ap (λ z. z.fixed) is i };
        number = n;
        inside = ap (λ z. is_inside z.stage) is i;
        seen = ap (λ z. z.seen) is i;
        own = (ap (λ z. own_of z.accounts) is ∙ own) i;
        gathered = (ap (λ z. gathered_of z.accounts) is ∙ gathered) i;
        drawn = ap (λ z. z.drawn) is i;
        turns = ap (λ z. z.turns) is i;
        trace = ap (λ z. z.trace) is i;
      } in
      step ∙ ap (λ z. after_turn z left) known

  -- a join, as contracts see it
  pub join_known : (n m : ℕ) (p o q : Seat (Option T) (View E F)) (k l : Knowledge E F) → IsNumbered n p.me.0 → IsNumbered m o.me.0 → q.table_id ≡ p.table_id → q.me.0 ≡ view_heard (view_joined p.me.0 o.me.0) → knowledge n p ≡ k → knowledge m o ≡ l → knowledge n q ≡ after_join k l
  join_known n m p o q k l has other table is known taken =
      let v : View E F = p.me.0 in let w : View E F = o.me.0 in
      let own : own_of (v.accounts ++ w.accounts) ≡ own_of v.accounts = own_append (n, has.0) has.1 v.accounts w.accounts has.2 in
      let gathered : gathered_of (v.accounts ++ w.accounts) ≡ gathered_of v.accounts ++ accounts_of (knowledge m o) =
      gathered_append (n, has.0) has.1 v.accounts w.accounts has.2 ∙ ap (λ a. gathered_of v.accounts ++ a) (accounts_are m w other) in
      let step : knowledge n q ≡ after_join (knowledge n p) (knowledge m o) =
      λ i. record {
        cell = record { table = table i; opening = ap (λ z. z.opening) is i; fixed = ap (λ z. z.fixed) is i };
        number = n;
        inside = ap (λ z. is_inside z.stage) is i;
        seen = ap (λ z. z.seen) is i;
        own = (ap (λ z. own_of z.accounts) is ∙ own) i;
        gathered = (ap (λ z. gathered_of z.accounts) is ∙ gathered) i;
        drawn = ap (λ z. z.drawn) is i;
        turns = ap (λ z. z.turns) is i;
        trace = ap (λ z. z.trace) is i;
      } in
      step ∙ (λ i. after_join (known i) (taken i))

  -- what is split off is a pass
  pub split_pass : (n m : ℕ) (p q : Seat (Option T) (View E F)) → IsPass n p → m ≡ p.me.0.drawn + 2 → q.me ≡ (view_split_off (view_numbered p.me.0), []) → ViewAccounted (view_numbered p.me.0) → IsPass m q
  split_pass n m p q pass number_is me_is exact =
      let v : View E F = p.me.0 in
      let facts : Begins v.opening v.seen × AreExact (after v.opening v.seen) (v.accounts ++ (v.drawn + 2, []) ∷ []) = exact pass.fixed in
      let none : AreExact (after v.opening v.seen) ((v.drawn + 2, []) ∷ []) = each_right _ v.accounts ((v.drawn + 2, []) ∷ []) facts.1 in
      record {
        holds = subst (λ (z : Me (Option T) (View E F)). HoldsAt z.0.stage z.1) (sym me_is) refl;
        settled = subst (λ (z : Me (Option T) (View E F)). IsSettled z.0) (sym me_is) (refl, refl);
        numbered = subst (λ (z : Me (Option T) (View E F)). IsNumbered m z.0) (sym me_is) ([], [], λ i. (sym number_is i, []) ∷ []);
        leads = ap (λ z. z.0.first) me_is ∙ sym (ne_eqb m 1 (λ (e : m ≡ 1). omega (arith, number_is)));
        fixed = subst (λ (z : Me (Option T) (View E F)). IsSome z.0.fixed) (sym me_is) pass.fixed;
        accounted = subst (λ (z : Me (Option T) (View E F)). Begins z.0.opening z.0.seen × AreExact (after z.0.opening z.0.seen) ((m, own_of z.0.accounts) ∷ gathered_of z.0.accounts)) (sym me_is)
            (facts.0, subst (λ (z : ℕ). AreExact (after v.opening v.seen) ((z, []) ∷ [])) (sym number_is) none);
        traced = record {
          own = subst (λ (z : Me (Option T) (View E F)). own_of z.0.accounts ≡ added_in z.0.trace) (sym me_is) refl;
          in_turn = subst (λ (z : Me (Option T) (View E F)). AreInTurn z.0.trace z.0.seen) (sym me_is) tt;
          counted = subst (λ (z : Me (Option T) (View E F)). z.0.turns ≡ length z.0.trace) (sym me_is) refl;
        };
      }

module _ {T E F : Type 0} (log : T → Log E) (fixed : T → F) (x0 : T) where
  -- the value that a cell is closed with
  pub closed_value : (n : ℕ) (p : Seat (Option T) (View E F)) (k : Knowledge E F) (ws : List ℕ) (xs : List (Option T)) (y : Option T)
      → IsPass n p → knowledge n p ≡ k → k.inside ≡ false → k.number ≡ 1 → length k.gathered ≡ k.drawn → Final (Seen (TurnRule log fixed x0) p.id p.me.0) ws xs → get_elem? xs 0 ≡ some y
      → (x : T) × (y ≡ Some x) × (log x ≡ k.seen) × (k.cell.fixed ≡ Some (fixed x)) × HasAll k (log x)
  closed_value n p k ws xs y pass known out first all final there =
      let v : View E F = p.me.0 in
      let number : n ≡ 1 = ap (λ z. z.number) known ∙ first in
      let is : v.accounts ≡ (n, own_of v.accounts) ∷ gathered_of v.accounts = accounts_are n v pass.numbered in
      let many : length (gathered_of v.accounts) ≡ v.drawn = ap (λ z. length z.gathered) known ∙ (all ∙ sym (ap (λ z. z.drawn) known)) in
      let long : length v.accounts ≡ length (gathered_of v.accounts) + 1 = let l : length v.accounts ≡ length ((n, own_of v.accounts) ∷ gathered_of v.accounts) = ap length is in omega arith in
      let idle = stage_idle v.stage p.me.1 (ap (λ z. z.inside) known ∙ out) pass.holds in
      let h = closes log fixed x0 p.id v ws xs y idle.0 (pass.leads ∙ ap (λ z. z == 1) number) pass.fixed (omega (arith, long, many)) final there in
      let x : T = h.0 in
      let every : HasAll (knowledge n p) (log x) = subst (λ (a : List (Account E)). Each (λ e. account_count e.0 a ≡ 1) (after v.opening (log x))) is h.4 in
      (x, h.1, h.2 ∙ ap (λ z. z.seen) known, sym (ap (λ z. z.cell.fixed) known) ∙ h.3, subst (λ (z : Knowledge E F). HasAll z (log x)) known every)
