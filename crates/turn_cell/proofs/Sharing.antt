-- How a cell begins, and how its passes are split and joined.
use Rattle.std.proofs.Common.{◌≡◌, ℕ, zero, suc, ◌+◌, ◌%◌, ◌<◌, ◌≤◌, ◌≢◌, eqb, Bool, true, false, List, [], ◌∷◌, ◌++◌, length, drop, set, get_or, sym, refl, ap, ap₂, ◌∙◌, subst, arith, length-append, length-set, Option, Some, None, ⊎_elim, cond, ne_eqb, eq-eqb}
use Rattle.std.specs.Prelude.{IfSome, IsSome}
use mathlib.Core.Option.{some, none, some-injective, some-ne-none}
use mathlib.Core.Option as maybe
use mathlib.Core.Logic.{dite}
use native.Mathlib.Decide.{ℕ_discrete, dec_le}
use lib.ListN.{get_elem?}
use lib.Seq.{set-get_or}
use Rattle.std.proofs.lemmas.List.{append-nil, drop-append-le}
use Rattle.std.proofs.lemmas.List.Elements.{filter-append}
use Rattle.std.proofs.Math.Seq.{drop-length}
use Rattle.atomic_table.specs.Table.{State, Me, step, keeps, opening, Allows, Splits, Joins, Final, Seen}
use Rattle.atomic_table.proofs.Lists.{set_here, set_else, at_longer}
use Rattle.turn_cell.specs.declared.view.View.{View}
use Rattle.turn_cell.specs.declared.view.Stage.{Stage}
use Rattle.turn_cell.specs.declared.view.Stage.TheVariants.{Outside, Inside}
use Rattle.turn_cell.specs.Logs.{Log, Account, Begins, Each, after, entries_of, one_if, account_count}
use Rattle.turn_cell.specs.Rule.{ticket, tickets, held_accounts, ticket_count, owner_count, since, SlotHolds, AtStage, Fits, TurnRule, first_view}
use Rattle.turn_cell.specs.Steps.{view_numbered, view_after_split, view_split_off, view_joined, view_spent, view_heard, Number, Hear}
use Rattle.turn_cell.proofs.Lists.{total_set, total_same, total_le, total_two, total_snoc, at_end, seats_stay, begins_self, begins_on, longer_begins, begins_length, each_append, each_on, each_left, each_right, each_both, each_drop, of_between, account, all_there, has_room, times_append, of_absent, one_if_self}
use Rattle.turn_cell.proofs.TurnSteps.{M, built, rebuilt, still_inside, accounted, some_on}

one_if_other : (n m : ℕ) → n ≢ m → one_if n m ≡ 0
one_if_other n m ne = let P : Bool → Type 0 = λ b. cond {A = ℕ} b 1 0 ≡ 0 in subst P (sym (ne_eqb n m ne)) refl

some_number : {E : Type 0} (accounts : List (Account E)) → 0 < length accounts → (m : ℕ) × (0 < account_count m accounts)
some_number [] h = absurd (omega arith)
some_number (a ∷ others) h = (a.0, let o = one_if_self a.0 a.0 refl in omega arith)

module _ {T E F : Type 0} (log : T → Log E) (fixed : T → F) (x0 : T) where
  abbrev V : Type 0
  V = View E F

  abbrev St : Type 0
  St = State (Option T) V

  abbrev Rule : St → Type 0
  Rule = TurnRule log fixed x0

  abbrev Sat : Type 0
  Sat = Me (Option T) V

  first_seat : (j : ℕ) (v : V) → get_elem? (first_view log fixed x0 ∷ []) j ≡ some v → (j ≡ 0) × (first_view log fixed x0 ≡ v)
  first_seat zero v e = (refl, some-injective (first_view log fixed x0) v e)
  first_seat (suc j) v e = absurd (some-ne-none v (sym e))

  longer_lies : (vs : List V) (w : V) (now : Log E) (home : maybe.Option (Option T)) → SlotHolds log fixed x0 vs now home → SlotHolds log fixed x0 (vs ++ w ∷ []) now home
  longer_lies vs w now none l = (l.0, l.1, l.2, at_longer vs (w ∷ []) l.0 l.1 l.3, l.4)
  longer_lies vs w now (some y) l = l

  pub opens : Rule (opening (0 ∷ 0 ∷ 2 ∷ []) (Some x0 ∷ []) (first_view log fixed x0))
  opens = record {
    drawn = 0;
    served = 0;
    given = 2;
    now = log x0;
    home = some (Some x0);
    words_are = refl;
    homes_are = refl;
    lies = (x0, refl, refl, refl);
    counted = refl;
    few = omega arith;
    starts = begins_self (log x0);
    each = λ j v e. let h = first_seat j v e in subst (λ (z : ℕ × V). Fits log fixed x0 0 0 2 1 (log x0) (some (Some x0)) z.0 z.1) (λ i. (sym h.0 i, h.1 i)) (record {
      stage = tt;
      seen = begins_self (log x0);
      joining = tt;
      accounts = (sym (ap (entries_of 1) (drop-length (log x0))), tt);
      fixed_is = (refl, refl);
      known = (sym (ap (entries_of 1) (drop-length (log x0))), tt);
      began = begins_self (log x0);
      first = λ _. refl;
      leads = λ _. (refl, refl, refl);
    });
    one_ticket = λ j k v w t a b p q. let h = first_seat j v a in absurd (some-ne-none t (sym (ap (λ (z : V). ticket z.stage) h.1 ∙ p)));
    one_owner = λ n a b. let is : n ≡ 1 = omega arith in let h = one_if_self n 1 is in omega arith;
    no_owner = λ n a. let h = one_if_other n 1 (λ (e : n ≡ 1). omega arith) in omega arith;
    zero_owner = refl;
    by_owner = subst (Each (λ e. (0 < e.0) × (e.0 < 2))) (sym (drop-length (log x0))) tt;
    crowd = omega arith;
  }

  -- the next number is drawn by the first pass
  pub draws_number : (slots id : ℕ) (me : Sat) → me.0.stage ≡ Outside → me.0.first ≡ true → me.0.spare ≡ [] → me.0.drawn < 4294967294 → Allows Rule slots id me 2 (λ n. (n + 1) % M) (Number log fixed (step slots 2 1 0 none) me)
  draws_number slots id me idle first empty room s r wide at_me small =
      let v : V = me.0 in let w : V = view_numbered v in let f = r.each id v at_me in let here : id ≡ 0 = f.first first in
      let lead = f.leads here in let given_is : r.given ≡ v.drawn + 2 = lead.1 in let crowd_is : length s.views + length v.spare ≡ v.drawn + 1 = lead.2 in
      let bare : length v.spare ≡ 0 = ap length empty in
      let word : get_or s.words 2 0 ≡ r.given = ap (λ (ws : List ℕ). get_or ws 2 0) r.words_are in
      let up : (get_or s.words 2 0 + 1) % M ≡ r.given + 1 = omega arith in
      let mine : (n : ℕ) → account_count n (held_accounts w) ≡ account_count n (held_accounts v) + one_if n r.given = λ n.
      let a = times_append n v.accounts w.spare in let b = times_append n v.accounts v.spare in let c : account_count n v.spare ≡ 0 = ap (account_count n) empty in
      let d : one_if n (v.drawn + 2) ≡ one_if n r.given = ap (one_if n) (sym given_is) in omega arith in
      let sums : (n : ℕ) → owner_count n (set s.views id w) ≡ owner_count n s.views + one_if n r.given = λ n. let h = total_set (λ (u : V). account_count n (held_accounts u)) s.views id v w at_me in let m = mine n in omega arith in
      let next : Rule record { words = set s.words 2 ((get_or s.words 2 0 + 1) % M); homes = s.homes; views = set s.views id w } =
      built log fixed x0 s r id v w at_me r.drawn r.served (r.given + 1) r.now r.home (set s.words 2 ((get_or s.words 2 0 + 1) % M)) s.homes
      (λ n a b. dite (ℕ_discrete n r.given)
      (λ e. let h = sums n in let z = r.no_owner n (omega arith) in let o = one_if_self n r.given e in omega arith)
      (λ ne. let h = sums n in let z = r.one_owner n a (omega arith) in let o = one_if_other n r.given ne in omega arith))
      (λ n a. let h = sums n in let z = r.no_owner n (omega arith) in let o = one_if_other n r.given (λ (e : n ≡ r.given). omega arith) in omega arith)
      (let h = sums 0 in let z = r.zero_owner in let o = one_if_other 0 r.given (λ (e : 0 ≡ r.given). omega arith) in omega arith)
      (omega arith) (omega arith)
      (ap₂ (λ (ws : List ℕ) (z : ℕ). set ws 2 z) r.words_are up) r.homes_are
      (still_inside log fixed x0 s id v w r.now r.home at_me (λ t e. let no : Outside ≡ Inside t = sym idle ∙ e in cc) r.lies)
      (ap (λ (z : ℕ). r.served + z) (total_same (λ (u : V). tickets u.stage) s.views id v w at_me refl) ∙ r.counted) r.starts
      (each_on (λ e. (0 < e.0) × (e.0 < r.given)) (λ e. (0 < e.0) × (e.0 < r.given + 1)) (since log fixed x0 r.now) (λ e k. (k.0, omega (arith, k.1))) r.by_owner)
      (record {
        stage = f.stage;
        seen = f.seen;
        joining = f.joining;
        accounts = each_append (λ a. a.1 ≡ entries_of a.0 (since log fixed x0 r.now)) v.accounts w.spare (each_left (λ a. a.1 ≡ entries_of a.0 (since log fixed x0 r.now)) v.accounts v.spare f.accounts)
            (sym (of_absent (v.drawn + 2) (since log fixed x0 r.now) (subst (λ (n : ℕ). Each (λ e. (0 < e.0) × (e.0 < n)) (since log fixed x0 r.now)) given_is r.by_owner)), tt);
        fixed_is = f.fixed_is;
        known = each_append (λ a. a.1 ≡ entries_of a.0 (since log fixed x0 v.seen)) v.accounts w.spare (each_left (λ a. a.1 ≡ entries_of a.0 (since log fixed x0 v.seen)) v.accounts v.spare f.known) (
          sym (of_absent (v.drawn + 2) (since log fixed x0 v.seen) (each_drop (λ e. (0 < e.0) × (e.0 < v.drawn + 2)) (length (log x0)) v.seen f.seen.0
              (subst (λ (l : Log E). Each (λ e. (0 < e.0) × (e.0 < v.drawn + 2)) (drop (length (log x0)) l)) f.seen.1 (subst (λ (n : ℕ). Each (λ e. (0 < e.0) × (e.0 < n)) (since log fixed x0 r.now)) given_is r.by_owner)))),
          tt,
        );
        began = f.began;
        first = f.first;
        leads = λ _. (first, omega arith, omega arith);
      })
      (λ j u ne at_j. let g = r.each j u at_j in record {
        stage = g.stage;
        seen = g.seen;
        joining = g.joining;
        accounts = g.accounts;
        fixed_is = g.fixed_is;
        known = g.known;
        began = g.began;
        first = g.first;
        leads = λ z. absurd (ne (z ∙ sym here));
      })
      (λ t j u ne mine at_j his. some-ne-none t (sym (ap ticket (sym idle) ∙ mine))) in (
        w,
        keeps,
        tt,
        next,
        (word ∙ given_is, refl, accounted log fixed x0 record { words = set s.words 2 ((get_or s.words 2 0 + 1) % M); homes = s.homes; views = set s.views id w } next id w (set_here s.views id w (has_room s.views id v at_me))),
      )

  -- the number that is kept goes to a new pass
  pub splits : (id : ℕ) (v : V) → v.stage ≡ Outside → v.first ≡ true → length v.spare ≡ 1 → Splits Rule id v (view_after_split v) (view_split_off v)
  splits id v idle first kept s r at_me =
      let left : V = view_after_split v in let right : V = view_split_off v in let f = r.each id v at_me in let here : id ≡ 0 = f.first first in
      let lead = f.leads here in let given_is : r.given ≡ v.drawn + 2 = lead.1 in let crowd_is : length s.views + length v.spare ≡ v.drawn + 1 = lead.2 in
      let vs : List V = set s.views id left in
      let long : length vs ≡ length s.views = length-set s.views id left in
      let longer_is : length (vs ++ right ∷ []) ≡ length s.views + 1 = omega (arith, length-append vs (right ∷ [])) in
      let P : Account E → Type 0 = λ a. a.1 ≡ entries_of a.0 (since log fixed x0 r.now) in let K : Account E → Type 0 = λ a. a.1 ≡ entries_of a.0 (since log fixed x0 v.seen) in
      let same : (n : ℕ) → owner_count n (vs ++ right ∷ []) ≡ owner_count n s.views = λ n.
      let a = total_snoc (λ (u : V). account_count n (held_accounts u)) vs right in let b = total_set (λ (u : V). account_count n (held_accounts u)) s.views id v left at_me in
      let c = times_append n v.accounts v.spare in let d = times_append n v.accounts [] in let e = times_append n v.spare [] in omega arith in
      let count : ticket_count (vs ++ right ∷ []) ≡ ticket_count s.views =
      let a = total_snoc (λ (u : V). tickets u.stage) vs right in let b = total_same (λ (u : V). tickets u.stage) s.views id v left at_me refl in omega arith in
      let fits : (j : ℕ) (u : V) → get_elem? (vs ++ right ∷ []) j ≡ some u → Fits log fixed x0 r.drawn r.served r.given (length s.views + 1) r.now r.home j u = λ j u e.
      ⊎_elim (λ (h : get_elem? vs j ≡ some u). seats_stay (Fits log fixed x0 r.drawn r.served r.given (length s.views + 1) r.now r.home) s.views id left
      (record { stage = f.stage; seen = f.seen; joining = f.joining; accounts = each_append P v.accounts [] (each_left P v.accounts v.spare f.accounts) tt; fixed_is = f.fixed_is; known = each_append K v.accounts [] (each_left K v.accounts v.spare f.known) tt; began = f.began; first = f.first; leads = λ _. (first, given_is, omega arith) })
      (λ j u ne at_j. let g = r.each j u at_j in record { stage = g.stage; seen = g.seen; joining = g.joining; accounts = g.accounts; fixed_is = g.fixed_is; known = g.known; began = g.began; first = g.first; leads = λ z. absurd (ne (z ∙ sym here)) }) j u h)
      (λ (h : (j ≡ length vs) × (right ≡ u)). subst (Fits log fixed x0 r.drawn r.served r.given (length s.views + 1) r.now r.home j) h.1
      (record {
        stage = tt;
        seen = f.seen;
        joining = tt;
        accounts = each_append P v.spare [] (each_right P v.accounts v.spare f.accounts) tt;
        fixed_is = f.fixed_is;
        known = each_append K v.spare [] (each_right K v.accounts v.spare f.known) tt;
        began = f.began;
        first = λ (z : false ≡ true). absurd (cc);
        leads = λ z. let room = has_room s.views id v at_me in let at : j ≡ length vs = h.0 in absurd (omega arith);
      }))
      (at_end vs right u j e) in
      let were : (j : ℕ) (u : V) (t : ℕ) → get_elem? (vs ++ right ∷ []) j ≡ some u → ticket u.stage ≡ some t → (z : V) × (get_elem? s.views j ≡ some z) × (ticket z.stage ≡ some t) = λ j u t e is.
      ⊎_elim (λ (h : get_elem? vs j ≡ some u). seats_stay (λ j u. ticket u.stage ≡ some t → (z : V) × (get_elem? s.views j ≡ some z) × (ticket z.stage ≡ some t)) s.views id left (λ q. (v, at_me, q)) (λ j u ne at_j q. (u, at_j, q)) j u h is)
      (λ (h : (j ≡ length vs) × (right ≡ u)). absurd (some-ne-none t (sym (ap (λ (z : V). ticket z.stage) h.1 ∙ is))))
      (at_end vs right u j e) in
      record {
        drawn = r.drawn;
        served = r.served;
        given = r.given;
        now = r.now;
        home = r.home;
        words_are = r.words_are;
        homes_are = r.homes_are;
        lies = longer_lies vs right r.now r.home (still_inside log fixed x0 s id v left r.now r.home at_me (λ t e. let no : Outside ≡ Inside t = sym idle ∙ e in cc) r.lies);
        counted = ap (λ (z : ℕ). r.served + z) count ∙ r.counted;
        few = r.few;
        starts = r.starts;
        each = subst (λ (c : ℕ). (j : ℕ) (u : V) → get_elem? (vs ++ right ∷ []) j ≡ some u → Fits log fixed x0 r.drawn r.served r.given c r.now r.home j u) (sym longer_is) fits;
        one_ticket = λ j k a b t aj bk ta tb. let x = were j a t aj ta in let y = were k b t bk tb in r.one_ticket j k x.0 y.0 t x.1 y.1 x.2 y.2;
        one_owner = λ n a b. same n ∙ r.one_owner n a b;
        no_owner = λ n a. same n ∙ r.no_owner n a;
        zero_owner = same 0 ∙ r.zero_owner;
        by_owner = r.by_owner;
        crowd = omega arith;
      }

  -- one pass takes in another
  pub merges : (id : ℕ) (v : V) (other : ℕ) (w : V) → v.stage ≡ Outside → w.stage ≡ Outside → w.first ≡ false → w.spare ≡ [] → Joins Rule id v other w (view_joined v w) view_spent
  merges id v other w idle idle_w later bare s r at_me apart at_other_now =
      let both : V = view_joined v w in let gone : V = view_spent in let vs : List V = set s.views id both in
      let at_other : get_elem? s.views other ≡ some w = sym (set_else s.views id other both apart) ∙ at_other_now in
      let f = r.each id v at_me in let g = r.each other w at_other in
      let b = longer_begins v.seen w.seen r.now f.seen g.seen in
      let P : Account E → Type 0 = λ a. a.1 ≡ entries_of a.0 (since log fixed x0 r.now) in
      let L : Account E → Type 0 = λ a. a.1 ≡ entries_of a.0 (since log fixed x0 both.seen) in let k : ℕ = length (log x0) in
      let mine : Each L (held_accounts v) = each_both (λ a. a.1 ≡ entries_of a.0 (since log fixed x0 v.seen)) P L (held_accounts v) (λ a p q. of_between a.0 k a.1 v.seen both.seen r.now b.0 b.2 p q) f.known f.accounts in
      let his : Each L (held_accounts w) = each_both (λ a. a.1 ≡ entries_of a.0 (since log fixed x0 w.seen)) P L (held_accounts w) (λ a p q. of_between a.0 k a.1 w.seen both.seen r.now b.1 b.2 p q) g.known g.accounts in
      let same : (n : ℕ) → owner_count n (set vs other gone) ≡ owner_count n s.views = λ n.
      let a = total_set (λ (u : V). account_count n (held_accounts u)) vs other w gone at_other_now in let c = total_set (λ (u : V). account_count n (held_accounts u)) s.views id v both at_me in
      let d = times_append n (v.accounts ++ w.accounts) v.spare in let e = times_append n v.accounts w.accounts in let h = times_append n v.accounts v.spare in let i = times_append n w.accounts w.spare in
      let none_kept : account_count n w.spare ≡ 0 = ap (account_count n) bare in omega arith in
      let count : ticket_count (set vs other gone) ≡ ticket_count s.views =
      let a = total_same (λ (u : V). tickets u.stage) vs other w gone at_other_now (sym (ap tickets idle_w)) in let c = total_same (λ (u : V). tickets u.stage) s.views id v both at_me refl in omega arith in
      let fits : (j : ℕ) (u : V) → get_elem? (set vs other gone) j ≡ some u → Fits log fixed x0 r.drawn r.served r.given (length s.views) r.now r.home j u =
      seats_stay (Fits log fixed x0 r.drawn r.served r.given (length s.views) r.now r.home) vs other gone
      (record {
        stage = tt;
        seen = (r.now, refl);
        joining = tt;
        accounts = tt;
        fixed_is = tt;
        known = tt;
        began = tt;
        first = λ (z : false ≡ true). absurd (cc);
        leads = λ z. let h = (g.leads z).0 in let no : true ≡ false = sym h ∙ later in absurd (cc);
      })
      (λ j u ne at_j. seats_stay (Fits log fixed x0 r.drawn r.served r.given (length s.views) r.now r.home) s.views id both
      (record {
        stage = subst (AtStage log fixed x0 r.drawn r.served 0 0 r.now r.home both) (sym idle) tt;
        seen = b.2;
        joining = (b.0, (b.1, tt));
        accounts = each_append P (v.accounts ++ w.accounts) v.spare (each_append P v.accounts w.accounts (each_left P v.accounts v.spare f.accounts) (each_left P w.accounts w.spare g.accounts)) (each_right P v.accounts v.spare f.accounts);
        fixed_is = f.fixed_is;
        known = each_append L (v.accounts ++ w.accounts) v.spare (each_append L v.accounts w.accounts (each_left L v.accounts v.spare mine) (each_left L w.accounts w.spare his)) (each_right L v.accounts v.spare mine);
        began = some_on v.fixed (Begins (log x0) v.seen) (Begins (log x0) both.seen) (λ h. begins_on (log x0) v.seen both.seen h b.0) f.began;
        first = f.first;
        leads = f.leads;
      })
      (λ j u ne at_j. r.each j u at_j) j u at_j) in
      let were : (j : ℕ) (u : V) (t : ℕ) → get_elem? (set vs other gone) j ≡ some u → ticket u.stage ≡ some t → (z : V) × (get_elem? s.views j ≡ some z) × (ticket z.stage ≡ some t) = λ j u t e is.
      let K : ℕ → V → Type 0 = λ j u. ticket u.stage ≡ some t → (z : V) × (get_elem? s.views j ≡ some z) × (ticket z.stage ≡ some t) in
      seats_stay K vs other gone (λ q. absurd (some-ne-none t (sym q))) (λ j u ne at_j. seats_stay K s.views id both (λ q. (v, at_me, q)) (λ j u ne at_j q. (u, at_j, q)) j u at_j) j u e is in
      let long : length (set vs other gone) ≡ length s.views = length-set vs other gone ∙ length-set s.views id both in
      let crowd : length s.views < r.given = r.crowd in
      let out : (st : Stage) → st ≡ Outside → (t : ℕ) → st ≢ Inside t = λ st is t e. let no : Outside ≡ Inside t = sym is ∙ e in cc in
      record {
        drawn = r.drawn;
        served = r.served;
        given = r.given;
        now = r.now;
        home = r.home;
        words_are = r.words_are;
        homes_are = r.homes_are;
        lies = still_inside log fixed x0 record { words = s.words; homes = s.homes; views = vs } other w gone r.now r.home at_other_now (out w.stage idle_w)
            (still_inside log fixed x0 s id v both r.now r.home at_me (out v.stage idle) r.lies);
        counted = ap (λ (z : ℕ). r.served + z) count ∙ r.counted;
        few = r.few;
        starts = r.starts;
        each = subst (λ (c : ℕ). (j : ℕ) (u : V) → get_elem? (set vs other gone) j ≡ some u → Fits log fixed x0 r.drawn r.served r.given c r.now r.home j u) (sym long) fits;
        one_ticket = λ j k a b t aj bk ta tb. let x = were j a t aj ta in let y = were k b t bk tb in r.one_ticket j k x.0 y.0 t x.1 y.1 x.2 y.2;
        one_owner = λ n a b. same n ∙ r.one_owner n a b;
        no_owner = λ n a. same n ∙ r.no_owner n a;
        zero_owner = same 0 ∙ r.zero_owner;
        by_owner = r.by_owner;
        crowd = omega arith;
      }

  -- a pass that took in another view_heard that it has seen both logs
  pub hears_told : (slots id : ℕ) (me : Sat) → me.0.stage ≡ Outside → Allows Rule slots id me 0 (λ n. n) (Hear log fixed (step slots 0 0 0 none) me)
  hears_told slots id me idle s r wide at_me small =
      let v : V = me.0 in let w : V = view_heard v in let f = r.each id v at_me in
      let next : Rule record { words = set s.words 0 (get_or s.words 0 0); homes = s.homes; views = set s.views id w } =
      rebuilt log fixed x0 s r id v w at_me (λ n. refl) r.drawn r.served r.now r.home (set s.words 0 (get_or s.words 0 0)) s.homes
      (set-get_or s.words 0 0 ∙ r.words_are) r.homes_are
      (still_inside log fixed x0 s id v w r.now r.home at_me (λ t e. let no : Outside ≡ Inside t = sym idle ∙ e in cc) r.lies)
      (ap (λ (z : ℕ). r.served + z) (total_same (λ (u : V). tickets u.stage) s.views id v w at_me refl) ∙ r.counted) r.starts r.by_owner
      (record { stage = subst (AtStage log fixed x0 r.drawn r.served 0 0 r.now r.home w) (sym idle) tt; seen = f.seen; joining = tt; accounts = f.accounts; fixed_is = f.fixed_is; known = f.known; began = f.began; first = f.first; leads = f.leads })
      (λ j u ne at_j. r.each j u at_j)
      (λ t j u ne mine at_j his. some-ne-none t (sym (ap ticket (sym idle) ∙ mine))) in (
        w,
        keeps,
        tt,
        next,
        (refl, f.joining, accounted log fixed x0 record { words = set s.words 0 (get_or s.words 0 0); homes = s.homes; views = set s.views id w } next id w (set_here s.views id w (has_room s.views id v at_me))),
      )

  -- a first pass with as many accounts as view_numbered has them all
  complete : (id : ℕ) (v : V) → v.first ≡ true → length v.accounts ≡ v.drawn + 1 → (s : St) (r : Rule s) → get_elem? s.views id ≡ some v → (n : ℕ) → 0 < n → n < v.drawn + 2 → 0 < account_count n v.accounts
  complete id v first full s r at_me =
      let given_is : r.given ≡ v.drawn + 2 = ((r.each id v at_me).leads ((r.each id v at_me).first first)).1 in
      let part : (n : ℕ) → account_count n v.accounts ≤ owner_count n s.views = λ n. let a = total_le (λ (u : V). account_count n (held_accounts u)) s.views id v at_me in let b = times_append n v.accounts v.spare in omega arith in
      all_there (v.drawn + 2) v.accounts
      (λ n. let p = part n in dite (dec_le r.given n)
      (λ over. let z = r.no_owner n over in omega arith)
      (λ under. dite (ℕ_discrete n 0)
      (λ zero_n. let z : owner_count n s.views ≡ 0 = ap (λ (m : ℕ). owner_count m s.views) zero_n ∙ r.zero_owner in omega arith)
      (λ pos. let z = r.one_owner n (omega arith) (omega arith) in omega arith)))
      (let p = part 0 in let z = r.zero_owner in omega arith)
      (λ n over. let p = part n in let z = r.no_owner n (omega arith) in omega arith)
      (omega arith)

  -- the value at the end
  module _ (id : ℕ) (v : V) (idle : v.stage ≡ Outside) (first : v.first ≡ true) (all : (n : ℕ) → 0 < n → n < v.drawn + 2 → 0 < account_count n v.accounts) (s : St) (r : Rule s) (at_me : get_elem? s.views id ≡ some v) where
    -- no other pass is inside, since no other has a number
    no_other : (j : ℕ) (u : V) (t : ℕ) → get_elem? s.views j ≡ some u → u.stage ≡ Inside t → ⊥
    no_other j u t at_j inside =
        let f = r.each id v at_me in let g = r.each j u at_j in
        let k : AtStage log fixed x0 r.drawn r.served 0 0 r.now r.home u (Inside t) = subst (AtStage log fixed x0 r.drawn r.served 0 0 r.now r.home u) inside g.stage in
        let lead = f.leads (f.first first) in let given_is : r.given ≡ v.drawn + 2 = lead.1 in
        let has = some_number u.accounts k.4 in let m : ℕ = has.0 in let some_there : 0 < account_count m u.accounts = has.1 in
        let apart : j ≢ id = λ e. let same : v ≡ u = some-injective v u (sym at_me ∙ (ap (get_elem? s.views) (sym e) ∙ at_j)) in let no : Outside ≡ Inside t = sym idle ∙ (ap (λ (z : V). z.stage) same ∙ inside) in cc in
        let his : account_count m (held_accounts u) ≡ account_count m u.accounts + account_count m u.spare = times_append m u.accounts u.spare in
        let mine : account_count m (held_accounts v) ≡ account_count m v.accounts + account_count m v.spare = times_append m v.accounts v.spare in
        let both = total_two (λ (z : V). account_count m (held_accounts z)) s.views j id u v apart at_j at_me in
        dite (dec_le r.given m)
        (λ over. let z = r.no_owner m over in omega arith)
        (λ under. dite (ℕ_discrete m 0)
        (λ zero_m. let z : owner_count m s.views ≡ 0 = ap (λ (n : ℕ). owner_count n s.views) zero_m ∙ r.zero_owner in omega arith)
        (λ pos. let a = all m (omega arith) (omega arith) in let z = r.one_owner m (omega arith) (omega arith) in omega arith))

    lies_there : (home : maybe.Option (Option T)) → SlotHolds log fixed x0 s.views r.now home → (x : T) × (home ≡ some (Some x)) × (log x ≡ r.now) × (fixed x ≡ fixed x0)
    lies_there none l = absurd (no_other l.0 l.1 l.2 l.3 l.4)
    lies_there (some y) l = (l.0, ap some l.1, l.2, l.3)

  no_rest : (v : V) (rest : Log E) → length (log x0) ≤ length v.seen → Each (λ a. a.1 ≡ entries_of a.0 (since log fixed x0 v.seen)) v.accounts → Each (λ a. a.1 ≡ entries_of a.0 (since log fixed x0 v.seen ++ rest)) v.accounts
      → Each (λ e. 0 < account_count e.0 v.accounts) (since log fixed x0 v.seen ++ rest) → v.seen ++ rest ≡ v.seen
  no_rest v [] long known accounts all = append-nil v.seen
  no_rest v (e ∷ rest) long known accounts all =
      let A : Log E = since log fixed x0 v.seen in
      let here : 0 < account_count e.0 v.accounts = (each_right (λ e. 0 < account_count e.0 v.accounts) A (e ∷ rest) all).0 in
      let Q : Account E → Type 0 = λ a. (a.1 ≡ entries_of a.0 A) × (a.1 ≡ entries_of a.0 (A ++ e ∷ rest)) in
      let a = account Q e.0 v.accounts here (each_both (λ a. a.1 ≡ entries_of a.0 A) (λ a. a.1 ≡ entries_of a.0 (A ++ e ∷ rest)) Q v.accounts (λ a p q. (p, q)) known accounts) in
      let n : ℕ = a.0.0 in
      let same : entries_of n A ≡ entries_of n (A ++ e ∷ rest) = sym a.2.0 ∙ a.2.1 in
      let cut : entries_of n (A ++ e ∷ rest) ≡ entries_of n A ++ entries_of n (e ∷ rest) = filter-append (λ (z : ℕ × E). eqb z.0 n) A (e ∷ rest) in
      let some_here : length (entries_of n (e ∷ rest)) ≡ suc (length (entries_of n rest)) = let P : Bool → Type 0 = λ b. length (cond b (e ∷ entries_of n rest) (entries_of n rest)) ≡ suc (length (entries_of n rest)) in subst P (sym (eq-eqb e.0 n a.1)) refl in
      let l : length (entries_of n A) ≡ length (entries_of n A ++ entries_of n (e ∷ rest)) = ap length (same ∙ cut) in
      absurd (omega (arith, length-append (entries_of n A) (entries_of n (e ∷ rest))))

  -- where every number has an account whose entries were all seen, the whole log was seen
  all_seen : (v : V) (now : Log E) → Begins v.seen now → Begins (log x0) v.seen → Each (λ a. a.1 ≡ entries_of a.0 (since log fixed x0 v.seen)) v.accounts → Each (λ a. a.1 ≡ entries_of a.0 (since log fixed x0 now)) v.accounts
      → Each (λ e. 0 < account_count e.0 v.accounts) (since log fixed x0 now) → now ≡ v.seen
  all_seen v now seen began known accounts all =
      let long : length (log x0) ≤ length v.seen = begins_length (log x0) v.seen began in
      let is : since log fixed x0 now ≡ since log fixed x0 v.seen ++ seen.0 = ap (drop (length (log x0))) seen.1 ∙ drop-append-le (length (log x0)) v.seen seen.0 long in
      seen.1 ∙ no_rest v seen.0 long known (subst (λ (l : Log E). Each (λ a. a.1 ≡ entries_of a.0 l) v.accounts) is accounts) (subst (Each (λ e. 0 < account_count e.0 v.accounts)) is all)

  -- the value at the end, as the first view with all accounts knows it
  opened_by : (v : V) (f : Option F) → IfSome f (λ g. (g ≡ fixed x0) × (v.opening ≡ log x0)) → IfSome f (λ _. Begins (log x0) v.seen) → IsSome f → (f ≡ Some (fixed x0)) × (v.opening ≡ log x0) × Begins (log x0) v.seen
  opened_by v None k b some_f = let no : false ≡ true = some_f in absurd (cc)
  opened_by v (Some g) k b some_f = (ap Some k.0, k.1, b)

  pub closes : (id : ℕ) (v : V) (ws : List ℕ) (xs : List (Option T)) (y : Option T) → v.stage ≡ Outside → v.first ≡ true → IsSome v.fixed → length v.accounts ≡ v.drawn + 1 → Final (Seen Rule id v) ws xs → get_elem? xs 0 ≡ some y
      → (x : T) × (y ≡ Some x) × (log x ≡ v.seen) × (v.fixed ≡ Some (fixed x)) × Each (λ e. account_count e.0 v.accounts ≡ 1) (after v.opening (log x))
  closes id v ws xs y idle first knows full final there =
      let s : St = final.0 in let r = final.1.0 in let at_me = final.1.1 in let all = complete id v first full s r at_me in let k = r.each id v at_me in
      let h = lies_there id v idle first all s r at_me r.home r.lies in let x : T = h.0 in
      let home : get_elem? s.homes 0 ≡ some (some (Some x)) = ap (λ (hs : List (maybe.Option (Option T))). get_elem? hs 0) r.homes_are ∙ ap some h.1 in
      let given_is : r.given ≡ v.drawn + 2 = (k.leads (k.first first)).1 in
      let opened = opened_by v v.fixed k.fixed_is k.began knows in
      let once : (n : ℕ) → 0 < n → n < r.given → account_count n v.accounts ≡ 1 = λ n pos under.
      let a = all n pos (omega arith) in let o = r.one_owner n pos under in let p = total_le (λ (u : V). account_count n (held_accounts u)) s.views id v at_me in let c = times_append n v.accounts v.spare in omega arith in
      let each_once : Each (λ e. account_count e.0 v.accounts ≡ 1) (since log fixed x0 r.now) = each_on (λ e. (0 < e.0) × (e.0 < r.given)) (λ e. account_count e.0 v.accounts ≡ 1) (since log fixed x0 r.now) (λ e b. once e.0 b.0 b.1) r.by_owner in
      let each_there : Each (λ e. 0 < account_count e.0 v.accounts) (since log fixed x0 r.now) = each_on (λ e. account_count e.0 v.accounts ≡ 1) (λ e. 0 < account_count e.0 v.accounts) (since log fixed x0 r.now) (λ e b. omega (arith, b)) each_once in (
        x,
        some-injective y (Some x) (sym there ∙ final.4 0 (Some x) home),
        h.2 ∙ all_seen v r.now k.seen opened.2 (each_left (λ a. a.1 ≡ entries_of a.0 (since log fixed x0 v.seen)) v.accounts v.spare k.known) (each_left (λ a. a.1 ≡ entries_of a.0 (since log fixed x0 r.now)) v.accounts v.spare k.accounts) each_there,
        opened.0 ∙ ap Some (sym h.3),
        subst (Each (λ e. account_count e.0 v.accounts ≡ 1)) (ap₂ (λ (o l : Log E). after o l) (sym opened.1) (sym h.2)) each_once,
      )
