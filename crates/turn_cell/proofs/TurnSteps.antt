-- Each step of a turn keeps the rule.
use Rattle.std.proofs.Common.{◌≡◌, ℕ, zero, suc, ◌+◌, ◌%◌, ◌<◌, ◌≤◌, ◌≢◌, true, false, List, [], ◌∷◌, ◌++◌, length, drop, set, get_or, sym, refl, ap, ap₂, ◌∙◌, subst, arith, length-set, Option, Some, None, le_refl}
use Rattle.std.specs.Prelude.{IfSome, IsSome}
use mathlib.Core.Option.{some, none, some-injective, some-ne-none}
use mathlib.Core.Option as maybe
use mathlib.Core.Logic.{dite}
use native.Mathlib.Decide.{ℕ_discrete, dec_le}
use lib.ListN.{get_elem?}
use lib.Seq.{set-get_or}
use Rattle.std.proofs.lemmas.List.{drop-append-le}
use Rattle.std.proofs.Math.Seq.{drop-append_seam}
use Rattle.atomic_table.specs.Table.{State, Me, step, keeps, takes, gives, stepped, rest, Allows}
use Rattle.atomic_table.proofs.Lists.{set_again, set_here, set_else, one_turn}
use Rattle.turn_cell.specs.declared.view.View.{View}
use Rattle.turn_cell.specs.declared.view.Stage.{Stage}
use Rattle.turn_cell.specs.declared.view.Stage.TheVariants.{Outside, Waiting, Inside}
use Rattle.turn_cell.specs.Logs.{Log, Account, Begins, Each, after, AreExact, entries_of, AllOwnedBy, grown, one_if, account_count}
use Rattle.turn_cell.specs.Rule.{ticket, tickets, held_accounts, ticket_count, owner_count, since, SlotHolds, AtStage, Fits, TurnRule}
use Rattle.turn_cell.specs.Steps.{at_stage, view_inside, view_after_turn, Draw, IsFixedAs, ViewAccounted, Found, Look, Out, Serve}
use Rattle.turn_cell.specs.Seats.{CameIn}
use Rattle.turn_cell.proofs.Lists.{total_set, total_same, total_le, total_two, total_most, seats_stay, begins_more, begins_self, begins_length, each_append, each_on, begins_on, has_room, others_same, one_more, times_grown, one_if_self}

abbrev pub M : ℕ
M = 18446744073709551616

tickets_most : (st : Stage) → tickets st ≤ 1
tickets_most Outside = omega arith
tickets_most (Waiting t) = omega arith
tickets_most (Inside t) = omega arith

-- a pass with a number has an account
pub owns_some : {E : Type 0} (n : ℕ) (accounts : List (Account E)) → ((own : Log E) × (gathered : List (Account E)) × (accounts ≡ (n, own) ∷ gathered)) → 0 < length accounts
owns_some n accounts has = let e : length accounts ≡ suc (length has.1) = ap length has.2 in omega arith

-- and it has its number still, once it has more entries
pub numbered_grown : {E : Type 0} (n : ℕ) (es : Log E) (accounts : List (Account E)) → ((own : Log E) × (gathered : List (Account E)) × (accounts ≡ (n, own) ∷ gathered)) → (own : Log E) × (gathered : List (Account E)) × (grown es accounts ≡ (n, own) ∷ gathered)
numbered_grown n es accounts has = (has.0 ++ es, has.1, ap (grown es) has.2)

-- where something stands after a change, there was room before
within : {A : Type 0} (l : List A) (i : ℕ) (b c : A) → get_elem? (set l i b) i ≡ some c → i < length l
within [] i b c e = absurd (some-ne-none c (sym e))
within (x ∷ xs) zero b c e = omega arith
within (x ∷ xs) (suc i) b c e = let h = within xs i b c e in omega arith

pub some_all : {F : Type 0} (f : Option F) (P : Type 0) → P → IfSome f (λ _. P)
some_all None P p = tt
some_all (Some x) P p = p

pub some_on : {F : Type 0} (f : Option F) (P Q : Type 0) → (P → Q) → IfSome f (λ _. P) → IfSome f (λ _. Q)
some_on None P Q on p = tt
some_on (Some x) P Q on p = on p

module _ {T E F : Type 0} (log : T → Log E) (fixed : T → F) (x0 : T) where
  abbrev V : Type 0
  V = View E F

  abbrev St : Type 0
  St = State (Option T) V

  abbrev Rule : St → Type 0
  Rule = TurnRule log fixed x0

  abbrev Sat : Type 0
  Sat = Me (Option T) V

  -- fewer tickets than 2^64 are out
  near : (s : St) (r : Rule s) → r.drawn < r.served + M
  near s r = let a = total_most (λ (v : V). tickets v.stage) s.views (λ v. tickets_most v.stage) in let b = r.crowd in let c = r.few in let d = r.counted in omega arith

  -- a stage is as before where tickets were drawn since
  later : (d d' sv : ℕ) (now : Log E) (home : maybe.Option (Option T)) (v : V) (st : Stage) → d ≤ d' → AtStage log fixed x0 d sv 0 0 now home v st → AtStage log fixed x0 d' sv 0 0 now home v st
  later d d' sv now home v Outside le k = tt
  later d d' sv now home v (Waiting t) le k = (k.0, omega (arith, k.1), k.2)
  later d d' sv now home v (Inside t) le k = (k.0, omega (arith, k.1), k.2, k.3, k.4)

  -- a ticket that is out is not served yet
  pub ranged : (d sv : ℕ) (now : Log E) (home : maybe.Option (Option T)) (v : V) (st : Stage) (t : ℕ) → AtStage log fixed x0 d sv 0 0 now home v st → ticket st ≡ some t → (sv ≤ t) × (t < d)
  ranged d sv now home v Outside t k e = absurd (some-ne-none t (sym e))
  ranged d sv now home v (Waiting u) t k e = let h : u ≡ t = some-injective u t e in (omega (arith, k.0), omega (arith, k.1))
  ranged d sv now home v (Inside u) t k e = let h : u ≡ t = some-injective u t e in (omega (arith, k.0), omega (arith, k.1))

  module _ (s : St) (r : Rule s) (id : ℕ) (v w : V) (at_me : get_elem? s.views id ≡ some v) where
    -- one view changes, and with it what it may
    pub built : (drawn' served' given' : ℕ) (now' : Log E) (home' : maybe.Option (Option T)) (ws : List ℕ) (hs : List (maybe.Option (Option T)))
        → ((n : ℕ) → 0 < n → n < given' → owner_count n (set s.views id w) ≡ 1) → ((n : ℕ) → given' ≤ n → owner_count n (set s.views id w) ≡ 0) → owner_count 0 (set s.views id w) ≡ 0 → given' ≤ 4294967296 → r.given ≤ given'
        → ws ≡ drawn' % M ∷ served' % M ∷ given' ∷ [] → hs ≡ home' ∷ [] → SlotHolds log fixed x0 (set s.views id w) now' home' → served' + ticket_count (set s.views id w) ≡ drawn'
        → Begins (log x0) now' → Each (λ e. (0 < e.0) × (e.0 < given')) (since log fixed x0 now')
        → Fits log fixed x0 drawn' served' given' (length s.views) now' home' id w
        → ((j : ℕ) (u : V) → j ≢ id → get_elem? s.views j ≡ some u → Fits log fixed x0 drawn' served' given' (length s.views) now' home' j u)
        → ((t j : ℕ) (u : V) → j ≢ id → ticket w.stage ≡ some t → get_elem? s.views j ≡ some u → ticket u.stage ≡ some t → ⊥)
        → Rule record { words = ws; homes = hs; views = set s.views id w }
    built drawn' served' given' now' home' ws hs one none_over nothing few more words_are homes_are lies counted starts by_owner mine others fresh =
        let long : length (set s.views id w) ≡ length s.views = length-set s.views id w in
        let crowd : length s.views < r.given = r.crowd in record {
          drawn = drawn';
          served = served';
          given = given';
          now = now';
          home = home';
          words_are = words_are;
          homes_are = homes_are;
          lies = lies;
          counted = counted;
          few = few;
          starts = starts;
          each = subst (λ (c : ℕ). (j : ℕ) (u : V) → get_elem? (set s.views id w) j ≡ some u → Fits log fixed x0 drawn' served' given' c now' home' j u) (sym long)
              (seats_stay (Fits log fixed x0 drawn' served' given' (length s.views) now' home') s.views id w mine others);
          one_ticket = λ j k a b t aj bk ta tb. dite (ℕ_discrete j id)
              (λ ji. dite (ℕ_discrete k id)
              (λ ki. ji ∙ sym ki)
              (λ ki. let wa : w ≡ a = some-injective w a (sym (set_here s.views id w (within s.views id w a (ap (get_elem? (set s.views id w)) (sym ji) ∙ aj))) ∙ (ap (get_elem? (set s.views id w)) (sym ji) ∙ aj)) in
              absurd (fresh t k b ki (ap (λ (z : V). ticket z.stage) wa ∙ ta) (sym (set_else s.views id k w ki) ∙ bk) tb)))
              (λ ji. dite (ℕ_discrete k id)
              (λ ki. let wb : w ≡ b = some-injective w b (sym (set_here s.views id w (within s.views id w b (ap (get_elem? (set s.views id w)) (sym ki) ∙ bk))) ∙ (ap (get_elem? (set s.views id w)) (sym ki) ∙ bk)) in
              absurd (fresh t j a ji (ap (λ (z : V). ticket z.stage) wb ∙ tb) (sym (set_else s.views id j w ji) ∙ aj) ta))
              (λ ki. r.one_ticket j k a b t (sym (set_else s.views id j w ji) ∙ aj) (sym (set_else s.views id k w ki) ∙ bk) ta tb));
          one_owner = one;
          no_owner = none_over;
          zero_owner = nothing;
          by_owner = by_owner;
          crowd = omega arith;
        }

    -- the same, where the view keeps its view_numbered
    pub rebuilt : ((n : ℕ) → account_count n (held_accounts w) ≡ account_count n (held_accounts v)) → (drawn' served' : ℕ) (now' : Log E) (home' : maybe.Option (Option T)) (ws : List ℕ) (hs : List (maybe.Option (Option T)))
        → ws ≡ drawn' % M ∷ served' % M ∷ r.given ∷ [] → hs ≡ home' ∷ [] → SlotHolds log fixed x0 (set s.views id w) now' home' → served' + ticket_count (set s.views id w) ≡ drawn'
        → Begins (log x0) now' → Each (λ e. (0 < e.0) × (e.0 < r.given)) (since log fixed x0 now')
        → Fits log fixed x0 drawn' served' r.given (length s.views) now' home' id w
        → ((j : ℕ) (u : V) → j ≢ id → get_elem? s.views j ≡ some u → Fits log fixed x0 drawn' served' r.given (length s.views) now' home' j u)
        → ((t j : ℕ) (u : V) → j ≢ id → ticket w.stage ≡ some t → get_elem? s.views j ≡ some u → ticket u.stage ≡ some t → ⊥)
        → Rule record { words = ws; homes = hs; views = set s.views id w }
    rebuilt same drawn' served' now' home' ws hs words_are homes_are lies counted starts by_owner mine others fresh =
        let rest : (n : ℕ) → owner_count n (set s.views id w) ≡ owner_count n s.views = λ n. total_same (λ (u : V). account_count n (held_accounts u)) s.views id v w at_me (same n) in
        built drawn' served' r.given now' home' ws hs (λ n a b. rest n ∙ r.one_owner n a b) (λ n a. rest n ∙ r.no_owner n a) (rest 0 ∙ r.zero_owner) r.few (le_refl r.given)
        words_are homes_are lies counted starts by_owner mine others fresh

  -- the views of others where tickets were drawn
  later_fits : (s : St) (r : Rule s) (drawn' j : ℕ) (u : V) → r.drawn ≤ drawn' → Fits log fixed x0 r.drawn r.served r.given (length s.views) r.now r.home j u
      → Fits log fixed x0 drawn' r.served r.given (length s.views) r.now r.home j u
  later_fits s r drawn' j u le f = record {
    stage = later r.drawn drawn' r.served r.now r.home u u.stage le f.stage;
    seen = f.seen;
    joining = f.joining;
    accounts = f.accounts;
    fixed_is = f.fixed_is;
    known = f.known;
    began = f.began;
    first = f.first;
    leads = f.leads;
  }

  -- who is inside, is still there where another view changed
  pub still_inside : (s : St) (id : ℕ) (v w : V) (now : Log E) (home : maybe.Option (Option T)) → get_elem? s.views id ≡ some v → ((t : ℕ) → v.stage ≢ Inside t) → SlotHolds log fixed x0 s.views now home → SlotHolds log fixed x0 (set s.views id w) now home
  still_inside s id v w now none at_me out l = (l.0, l.1, l.2, set_else s.views id l.0 w (λ e. out l.2 (ap (λ (z : V). z.stage) (some-injective v l.1 (sym at_me ∙ (ap (get_elem? s.views) (sym e) ∙ l.3))) ∙ l.4)) ∙ l.3, l.4)
  still_inside s id v w now (some y) at_me out l = l

  pub draws : (slots id : ℕ) (me : Sat) → me.0.stage ≡ Outside → 0 < length me.0.accounts → Allows Rule slots id me 0 (λ n. (n + 1) % M) (Draw log fixed (step slots 0 1 0 none) me)
  draws slots id me idle owns s r wide at_me small =
      let v : V = me.0 in let w : V = at_stage v (Waiting r.drawn) in let f = r.each id v at_me in let c = r.counted in
      let zero : tickets v.stage ≡ 0 = ap tickets idle in
      let sum = total_set (λ (u : V). tickets u.stage) s.views id v w at_me in
      let first : get_or s.words 0 0 ≡ r.drawn % M = ap (λ (ws : List ℕ). get_or ws 0 0) r.words_are in
      let up : (get_or s.words 0 0 + 1) % M ≡ (r.drawn + 1) % M = omega arith in (
        w,
        keeps,
        tt,
        rebuilt s r id v w at_me (λ n. refl) (r.drawn + 1) r.served r.now r.home (set s.words 0 ((get_or s.words 0 0 + 1) % M)) s.homes
            (ap₂ (λ (ws : List ℕ) (z : ℕ). set ws 0 z) r.words_are up) r.homes_are
            (still_inside s id v w r.now r.home at_me (λ t e. let no : Outside ≡ Inside t = sym idle ∙ e in cc) r.lies)
            (omega arith) r.starts r.by_owner
            (record { stage = (omega arith, omega arith, owns); seen = f.seen; joining = f.joining; accounts = f.accounts; fixed_is = f.fixed_is; known = f.known; began = f.began; first = f.first; leads = f.leads })
            (λ j u ne at. later_fits s r (r.drawn + 1) j u (omega arith) (r.each j u at))
            (λ t j u ne mine at_j his. let is : r.drawn ≡ t = some-injective r.drawn t mine in let b = (ranged r.drawn r.served r.now r.home u u.stage t (r.each j u at_j).stage his).1 in omega arith),
        (r.drawn, first, refl),
      )

  -- two views with one ticket are one
  one_view : (s : St) (r : Rule s) (j k : ℕ) (v w : V) (t : ℕ) → get_elem? s.views j ≡ some v → get_elem? s.views k ≡ some w → ticket v.stage ≡ some t → ticket w.stage ≡ some t → v ≡ w
  one_view s r j k v w t a b p q = some-injective v w (sym a ∙ (ap (get_elem? s.views) (r.one_ticket j k v w t a b p q) ∙ b))

  -- the view of another, where one is inside with the ticket served, or just came in
  outside : (d d' sv sv' : ℕ) (now now' : Log E) (home home' : maybe.Option (Option T)) (v : V) (st : Stage) → d ≤ d' → ((t : ℕ) → ticket st ≡ some t → (sv' ≤ t) × (t ≢ sv)) → AtStage log fixed x0 d sv 0 0 now home v st
      → AtStage log fixed x0 d' sv' 0 0 now' home' v st
  outside d d' sv sv' now now' home home' v Outside le low k = tt
  outside d d' sv sv' now now' home home' v (Waiting t) le low k = ((low t refl).0, omega (arith, k.1), k.2)
  outside d d' sv sv' now now' home home' v (Inside t) le low k = absurd ((low t refl).1 k.0)

  -- the value lies in the slot where the ticket served waits
  module _ (s : St) (r : Rule s) (id : ℕ) (v : V) (t : ℕ) (at_me : get_elem? s.views id ≡ some v) (waits : v.stage ≡ Waiting t) (served_is : t ≡ r.served) where
    is_home : (home : maybe.Option (Option T)) → r.home ≡ home → SlotHolds log fixed x0 s.views r.now home → (x : T) × (home ≡ some (Some x)) × (log x ≡ r.now) × (fixed x ≡ fixed x0)
    is_home none e (l) = let g = (r.each l.0 l.1 l.3).stage in
        let inside : AtStage log fixed x0 r.drawn r.served 0 0 r.now r.home l.1 (Inside l.2) = subst (AtStage log fixed x0 r.drawn r.served 0 0 r.now r.home l.1) l.4 g in
        let same = one_view s r id l.0 v l.1 t at_me l.3 (ap ticket waits) (ap ticket l.4 ∙ ap some (inside.0 ∙ sym served_is)) in
        let no : Waiting t ≡ Inside l.2 = sym waits ∙ (ap (λ (z : V). z.stage) same ∙ l.4) in absurd (cc)
    is_home (some y) e l = (l.0, ap some l.1, l.2, l.3)

  -- the fixed part that a view knows is that of a value whose fixed part is the first value's
  pub fixed_known : (x : T) (v : V) (f : Option F) → fixed x ≡ fixed x0 → IfSome f (λ g. (g ≡ fixed x0) × (v.opening ≡ log x0)) → IsSome f → f ≡ Some (fixed x)
  fixed_known x v None same k some_f = let no : false ≡ true = some_f in absurd (cc)
  fixed_known x v (Some g) same k some_f = ap Some (k.0 ∙ sym same)

  accounted_by : (v : V) (f : Option F) → IfSome f (λ g. (g ≡ fixed x0) × (v.opening ≡ log x0)) → IfSome f (λ _. Begins (log x0) v.seen) → AreExact (since log fixed x0 v.seen) (held_accounts v)
      → IsSome f → Begins v.opening v.seen × AreExact (after v.opening v.seen) (held_accounts v)
  accounted_by v None k b e some_f = let no : false ≡ true = some_f in absurd (cc)
  accounted_by v (Some g) k b e some_f = (subst (λ (o : Log E). Begins o v.seen) (sym k.1) b, subst (λ (o : Log E). AreExact (after o v.seen) (held_accounts v)) (sym k.1) e)

  -- the accounts of every view are exact
  pub accounted : (s : St) (r : Rule s) (j : ℕ) (v : V) → get_elem? s.views j ≡ some v → ViewAccounted v
  accounted s r j v at_j = let f = r.each j v at_j in accounted_by v v.fixed f.fixed_is f.began f.known

  module _ (slots id : ℕ) (me : Sat) (t : ℕ) (waits : me.0.stage ≡ Waiting t) (s : St) (r : Rule s) (at_me : get_elem? s.views id ≡ some me.0) where
    comes_in : (x : T) → r.served ≡ t → r.home ≡ some (Some x) → log x ≡ r.now → fixed x ≡ fixed x0 → Rule (stepped s 1 (get_or s.words 1 0) id me.1 (view_inside me.0 t (log x)) (takes 0 (Some x)))
    comes_in x served_is home_is log_is fixed_is =
        let v : V = me.0 in let f = r.each id v at_me in let w : V = view_inside v t (log x) in
        let k : (r.served ≤ t) × (t < r.drawn) × (0 < length v.accounts) = subst (AtStage log fixed x0 r.drawn r.served 0 0 r.now r.home v) waits f.stage in
        let homes : s.homes ≡ some (Some x) ∷ [] = r.homes_are ∙ ap (λ (y : maybe.Option (Option T)). y ∷ []) home_is in
        let sum = total_same (λ (u : V). tickets u.stage) s.views id v w at_me (sym (ap tickets waits)) in
        let before : Begins v.seen (log x) = subst (Begins v.seen) (sym log_is) f.seen in
        rebuilt s r id v w at_me (λ n. refl) r.drawn r.served r.now none (set s.words 1 (get_or s.words 1 0)) (set s.homes 0 none)
        (set-get_or s.words 1 0 ∙ r.words_are) (ap (λ (hs : List (maybe.Option (Option T))). set hs 0 none) homes)
        (id, w, t, set_here s.views id w (has_room s.views id v at_me), refl)
        (ap (λ (z : ℕ). r.served + z) sum ∙ r.counted) r.starts r.by_owner
        (record {
          stage = (sym served_is, k.1, log_is, refl, k.2);
          seen = subst (λ (l : Log E). Begins l r.now) (sym log_is) (begins_self r.now);
          joining = each_on (λ (l : Log E). Begins l v.seen) (λ (l : Log E). Begins l (log x)) v.joining (λ l b. begins_on l v.seen (log x) b before) f.joining;
          accounts = f.accounts;
          fixed_is = f.fixed_is;
          known = subst (λ (l : Log E). Each (λ a. a.1 ≡ entries_of a.0 (since log fixed x0 l)) (held_accounts v)) (sym log_is) f.accounts;
          began = some_all v.fixed (Begins (log x0) (log x)) (subst (Begins (log x0)) (sym log_is) r.starts);
          first = f.first;
          leads = f.leads;
        })
        (λ j u ne at_j. let g = r.each j u at_j in record {
          stage = outside r.drawn r.drawn r.served r.served r.now r.now r.home none u u.stage (le_refl r.drawn)
              (λ z is. ((ranged r.drawn r.served r.now r.home u u.stage z g.stage is).0, λ e. ne (r.one_ticket j id u v t at_j at_me (is ∙ ap some (e ∙ served_is)) (ap ticket waits)))) g.stage;
          seen = g.seen;
          joining = g.joining;
          accounts = g.accounts;
          fixed_is = g.fixed_is;
          known = g.known;
          began = g.began;
          first = g.first;
          leads = g.leads;
        })
        (λ z j u ne mine at_j his. ne (r.one_ticket j id u v t at_j at_me (his ∙ sym mine) (ap ticket waits)))

    same_ticket : (t' : ℕ) → me.0.stage ≡ Waiting t' → t ≡ t'
    same_ticket t' is = let e : Waiting t ≡ Waiting t' = sym waits ∙ is in cc

  pub looks : (slots id : ℕ) (me : Sat) (t : ℕ) → me.0.stage ≡ Waiting t → Allows Rule slots id me 1 (λ n. n) (Look log fixed (step slots 1 0 0 none) me)
  looks slots id me t waits s r wide at_me small =
      let v : V = me.0 in let f = r.each id v at_me in
      let k : (r.served ≤ t) × (t < r.drawn) × (0 < length v.accounts) = subst (AtStage log fixed x0 r.drawn r.served 0 0 r.now r.home v) waits f.stage in
      let found : get_or s.words 1 0 ≡ r.served % M = ap (λ (ws : List ℕ). get_or ws 1 0) r.words_are in
      dite (ℕ_discrete (get_or s.words 1 0) (t % M))
      (λ hit.
      let served_is : r.served ≡ t = one_turn r.served t M k.0 (let b = near s r in omega arith) (sym found ∙ hit) in
      let h = is_home s r id v t at_me waits (sym served_is) r.home refl r.lies in
      let x : T = h.0 in let w : V = view_inside v t (log x) in
      let next : Rule (stepped s 1 (get_or s.words 1 0) id me.1 w (takes 0 (Some x))) = comes_in slots id me t waits s r at_me x served_is h.1 h.2 h.3 in
      let there : ViewAccounted w = accounted (stepped s 1 (get_or s.words 1 0) id me.1 w (takes 0 (Some x))) next id w (set_here s.views id w (has_room s.views id v at_me)) in (
        w,
        takes 0 (Some x),
        ap (λ (hs : List (maybe.Option (Option T))). get_elem? hs 0) (r.homes_are ∙ ap (λ (y : maybe.Option (Option T)). y ∷ []) h.1),
        next,
        λ t' is'. let same : t ≡ t' = same_ticket slots id me t waits s r at_me t' is' in (
          (λ _. (x, ap (λ (z : ℕ). (view_inside v z (log x), (0, Some x) ∷ me.1)) same, subst (Begins v.seen) (sym h.2) f.seen, fixed_known x v v.fixed h.3 f.fixed_is, there)),
          (λ miss. absurd (miss (hit ∙ ap (λ (z : ℕ). z % M) same))),
        ),
      ))
      (λ miss. (
        v,
        keeps,
        tt,
        subst (λ (z : List ℕ × List V). Rule record { words = z.0; homes = s.homes; views = z.1 }) (λ i. (sym (set-get_or s.words 1 0) i, sym (set_again s.views id v at_me) i)) r,
        (λ t' is'. let same : t ≡ t' = same_ticket slots id me t waits s r at_me t' is' in ((λ hit. absurd (miss (hit ∙ ap (λ (z : ℕ). z % M) (sym same)))), (λ _. refl))),
      ))

  module _ (slots id : ℕ) (me : Sat) (t n : ℕ) (x : T) (own : Log E) (gathered : List (Account E)) (s : St) (r : Rule s) (at_me : get_elem? s.views id ≡ some me.0)
      (inside : me.0.stage ≡ Inside t) (slot : me.1 ≡ (0, Some x) ∷ []) (mine : me.0.accounts ≡ (n, own) ∷ gathered) where
    abbrev added : Log E
    added = drop (length me.0.seen) (log x)

    -- the number has one owner
    once : account_count n (held_accounts me.0) ≡ suc (account_count n (gathered ++ me.0.spare))
    once = ap (λ (l : List (Account E)). account_count n (l ++ me.0.spare)) mine ∙ (let h = one_if_self n n refl in let g : one_if n n + account_count n (gathered ++ me.0.spare) ≡ suc (account_count n (gathered ++ me.0.spare)) = omega arith in g)

    all_owners : (0 < n) × (n < r.given) × (owner_count n s.views ≡ 1)
    all_owners =
        let some_of : account_count n (held_accounts me.0) ≤ owner_count n s.views = total_le (λ (u : V). account_count n (held_accounts u)) s.views id me.0 at_me in
        let o = once in
        dite (dec_le r.given n)
        (λ over. let h = r.no_owner n over in absurd (omega arith))
        (λ under. dite (ℕ_discrete n 0)
        (λ zero_n. let h : owner_count n s.views ≡ 0 = ap (λ (z : ℕ). owner_count z s.views) zero_n ∙ r.zero_owner in absurd (omega arith))
        (λ pos. let a : 0 < n = omega arith in let b : n < r.given = omega arith in (a, b, r.one_owner n a b)))

    none_else : account_count n (gathered ++ me.0.spare) ≡ 0
    none_else = let h = all_owners in let one : owner_count n s.views ≡ 1 = h.2 in let some_of : account_count n (held_accounts me.0) ≤ owner_count n s.views = total_le (λ (u : V). account_count n (held_accounts u)) s.views id me.0 at_me in let o = once in omega arith

    none_there : (j : ℕ) (u : V) → j ≢ id → get_elem? s.views j ≡ some u → account_count n (held_accounts u) ≡ 0
    none_there j u ne at_j = let h = all_owners in let one : owner_count n s.views ≡ 1 = h.2 in let both = total_two (λ (z : V). account_count n (held_accounts z)) s.views j id u me.0 ne at_j at_me in let o = once in omega arith

    goes_out : log x ≡ me.0.seen ++ added → AllOwnedBy n added → me.0.fixed ≡ Some (fixed x)
        → Rule (stepped s 1 ((get_or s.words 1 0 + 1) % M) id me.1 (view_after_turn me.0 (log x)) gives)
    goes_out grows by same =
        let v : V = me.0 in let f = r.each id v at_me in let w : V = view_after_turn v (log x) in
        let k : AtStage log fixed x0 r.drawn r.served 0 0 r.now r.home v (Inside t) = subst (AtStage log fixed x0 r.drawn r.served 0 0 r.now r.home v) inside f.stage in
        let served_is : t ≡ r.served = k.0 in let below : t < r.drawn = k.1 in let seen_is : v.seen ≡ r.now = k.2 in
        let homes : s.homes ≡ none ∷ [] = r.homes_are ∙ ap (λ (y : maybe.Option (Option T)). y ∷ []) k.3 in
        let count = r.counted in
        let one : tickets v.stage ≡ 1 = ap tickets inside in
        let sum = total_set (λ (u : V). tickets u.stage) s.views id v w at_me in
        let word : get_or s.words 1 0 ≡ r.served % M = ap (λ (ws : List ℕ). get_or ws 1 0) r.words_are in
        let up : (get_or s.words 1 0 + 1) % M ≡ (r.served + 1) % M = omega arith in
        let log_is : log x ≡ r.now ++ added = grows ∙ ap (λ (l : Log E). l ++ added) seen_is in
        let since_is : since log fixed x0 (r.now ++ added) ≡ since log fixed x0 r.now ++ added = drop-append-le (length (log x0)) r.now added (begins_length (log x0) r.now r.starts) in
        let o = all_owners in
        let low : (u : V) (j z : ℕ) → j ≢ id → get_elem? s.views j ≡ some u → ticket u.stage ≡ some z → (r.served + 1 ≤ z) × (z ≢ r.served) =
        λ u j z ne at_j is. let b = (ranged r.drawn r.served r.now r.home u u.stage z (r.each j u at_j).stage is).0 in
        let other : z ≢ r.served = λ e. ne (r.one_ticket j id u v t at_j at_me (is ∙ ap some (e ∙ sym served_is)) (ap ticket inside)) in (omega arith, other) in
        let fresh_accounts : Each (λ a. a.1 ≡ entries_of a.0 (since log fixed x0 (r.now ++ added))) (held_accounts w) =
        subst (λ (l : List (Account E)). Each (λ a. a.1 ≡ entries_of a.0 (since log fixed x0 (r.now ++ added))) (grown added l ++ v.spare)) (sym mine)
        (subst (λ (l : Log E). Each (λ a. a.1 ≡ entries_of a.0 l) ((n, own ++ added) ∷ (gathered ++ v.spare))) (sym since_is)
        (let was : Each (λ a. a.1 ≡ entries_of a.0 (since log fixed x0 r.now)) ((n, own) ∷ (gathered ++ v.spare)) = subst (λ (l : List (Account E)). Each (λ a. a.1 ≡ entries_of a.0 (since log fixed x0 r.now)) (l ++ v.spare)) mine f.accounts in
        (one_more n own (since log fixed x0 r.now) added by was.0, others_same n (since log fixed x0 r.now) added (gathered ++ v.spare) by none_else was.1))) in
        let goal : Rule record { words = set s.words 1 ((get_or s.words 1 0 + 1) % M); homes = set s.homes 0 (some (Some x)); views = set s.views id w } =
        rebuilt s r id v w at_me (λ m. times_grown m added v.accounts v.spare) r.drawn (r.served + 1) (r.now ++ added) (some (Some x)) (set s.words 1 ((get_or s.words 1 0 + 1) % M)) (set s.homes 0 (some (Some x)))
        (ap₂ (λ (ws : List ℕ) (z : ℕ). set ws 1 z) r.words_are up) (ap (λ (hs : List (maybe.Option (Option T))). set hs 0 (some (Some x))) homes)
        (x, refl, log_is, (subst (λ (y : Option F). IfSome y (λ g. (g ≡ fixed x0) × (v.opening ≡ log x0))) same f.fixed_is).0)
        (omega arith) (begins_more (log x0) r.now added r.starts)
        (subst (Each (λ e. (0 < e.0) × (e.0 < r.given))) (sym since_is) (each_append (λ e. (0 < e.0) × (e.0 < r.given)) (since log fixed x0 r.now) added r.by_owner (each_on (λ e. e.0 ≡ n) (λ e. (0 < e.0) × (e.0 < r.given)) added (λ e is. (omega (arith, o.0), omega (arith, o.1))) by)))
        (record {
          stage = tt;
          seen = subst (λ (l : Log E). Begins l (r.now ++ added)) (sym log_is) (begins_self (r.now ++ added));
          joining = each_on (λ (l : Log E). Begins l v.seen) (λ (l : Log E). Begins l (log x)) v.joining (λ l b. subst (Begins l) (sym grows) (begins_more l v.seen added b)) f.joining;
          accounts = fresh_accounts;
          fixed_is = f.fixed_is;
          known = subst (λ (l : Log E). Each (λ a. a.1 ≡ entries_of a.0 (since log fixed x0 l)) (held_accounts w)) (sym log_is) fresh_accounts;
          began = some_all v.fixed (Begins (log x0) (log x)) (subst (Begins (log x0)) (sym log_is) (begins_more (log x0) r.now added r.starts));
          first = f.first;
          leads = f.leads;
        })
        (λ j u ne at_j. let g = r.each j u at_j in record {
          stage = outside r.drawn r.drawn r.served (r.served + 1) r.now (r.now ++ added) r.home (some (Some x)) u u.stage (le_refl r.drawn) (λ z is. low u j z ne at_j is) g.stage;
          seen = begins_more u.seen r.now added g.seen;
          joining = g.joining;
          accounts = subst (λ (l : Log E). Each (λ a. a.1 ≡ entries_of a.0 l) (held_accounts u)) (sym since_is) (others_same n (since log fixed x0 r.now) added (held_accounts u) by (none_there j u ne at_j) g.accounts);
          fixed_is = g.fixed_is;
          known = g.known;
          began = g.began;
          first = g.first;
          leads = g.leads;
        })
        (λ z j u ne is at_j his. some-ne-none z (sym is)) in
        subst (λ (cs : List (ℕ × Option T)). Rule (stepped s 1 ((get_or s.words 1 0 + 1) % M) id cs w gives)) (sym slot) goal

  pub serves : (slots id : ℕ) (me : Sat) (t n : ℕ) (x : T) (own : Log E) (gathered : List (Account E)) → me.0.stage ≡ Inside t → me.1 ≡ (0, Some x) ∷ [] → me.0.accounts ≡ (n, own) ∷ gathered
      → log x ≡ me.0.seen ++ drop (length me.0.seen) (log x) → AllOwnedBy n (drop (length me.0.seen) (log x)) → me.0.fixed ≡ Some (fixed x)
      → Allows Rule slots id me 1 (λ n. (n + 1) % M) (Serve log fixed (step slots 1 1 0 none) me)
  serves slots id me t n x own gathered inside slot mine grows by same s r wide at_me small = (
    view_after_turn me.0 (log x),
    gives,
    tt,
    goes_out slots id me t n x own gathered s r at_me inside slot mine grows by same,
    λ k y cs is. let e : (0, Some x) ∷ [] ≡ (k, Some y) ∷ cs = sym slot ∙ is in
        let p : ◌≡◌ {A = ℕ × Option T} (0, Some x) (k, Some y) = cc in let q : Some x ≡ Some y = ap (λ (z : ℕ × Option T). z.1) p in let xy : x ≡ y = cc in
        let kept : rest me.1 ≡ cs = ap rest is in
        ((λ i. (view_after_turn me.0 (log (xy i)), kept i)), accounted (stepped s 1 ((get_or s.words 1 0 + 1) % M) id me.1 (view_after_turn me.0 (log x)) gives) (goes_out slots id me t n x own gathered s r at_me inside slot mine grows by same) id (view_after_turn me.0 (log x)) (set_here s.views id (view_after_turn me.0 (log x)) (has_room s.views id me.0 at_me))),
  )

  -- the same, from what a clause says of a pass that put the value x back
  pub serves_from : (slots id : ℕ) (p q : Sat) (n : ℕ) (x : T) → ((t : ℕ) × (p.0.stage ≡ Inside t)) → p.1 ≡ (0, None) ∷ [] → q ≡ (p.0, (0, Some x) ∷ rest p.1)
      → ((own : Log E) × (gathered : List (Account E)) × (p.0.accounts ≡ (n, own) ∷ gathered)) → ((es : Log E) × (log x ≡ p.0.seen ++ es) × AllOwnedBy n es) → p.0.fixed ≡ Some (fixed x)
      → Allows Rule slots id q 1 (λ n. (n + 1) % M) (Serve log fixed (step slots 1 1 0 none) q)
  serves_from slots id p q n x inside empty is numbered grows same =
      let m : Sat = (p.0, (0, Some x) ∷ []) in
      let is_m : q ≡ m = is ∙ ap (λ (cs : List (ℕ × Option T)). (p.0, (0, Some x) ∷ rest cs)) empty in
      let es : Log E = grows.0 in
      let tail : es ≡ drop (length p.0.seen) (log x) = sym (ap (drop (length p.0.seen)) grows.1 ∙ drop-append_seam p.0.seen es) in
      subst (λ (z : Sat). Allows Rule slots id z 1 (λ n. (n + 1) % M) (Serve log fixed (step slots 1 1 0 none) z)) (sym is_m)
      (serves slots id m inside.0 n x numbered.0 numbered.1 inside.1 refl numbered.2 (grows.1 ∙ ap (λ (l : Log E). p.0.seen ++ l) tail) (subst (AllOwnedBy n) tail grows.2) same)

  -- what a seat that came in and moved the value out knows
  pub came_in : (p m m' q : Sat) (t : ℕ) (z : T) → p.1 ≡ [] → m ≡ (at_stage p.0 (Waiting t), p.1) → Found log fixed m t m' → Out m' z q → CameIn log fixed p q z
  came_in p m m' q t z empty was found out =
      let x : T = found.0 in
      let slot : (0, Some x) ∷ m.1 ≡ (0, Some z) ∷ rest m'.1 = sym (ap (λ (s : Sat). s.1) found.1) ∙ out.0 in
      let pair : ◌≡◌ {A = ℕ × Option T} (0, Some x) (0, Some z) = cc in
      let some_is : Some x ≡ Some z = ap (λ (w : ℕ × Option T). w.1) pair in let same : x ≡ z = cc in
      let view_is : m'.0 ≡ view_inside p.0 t (log x) = ap (λ (s : Sat). s.0) found.1 ∙ ap (λ (s : Sat). view_inside s.0 t (log x)) was in
      let kept : rest m'.1 ≡ [] = ap (λ (s : Sat). rest s.1) found.1 ∙ (ap (λ (s : Sat). s.1) was ∙ empty) in
      let now_is : q ≡ (view_inside p.0 t (log x), (0, None) ∷ []) = out.1 ∙ (λ i. (view_is i, (0, None) ∷ kept i)) in
      subst (λ (a : T). CameIn log fixed p q a) same (
        (t, now_is),
        subst (λ (s : Sat). Begins s.0.seen (log x)) was found.2,
        subst (λ (s : Sat). IsFixedAs log fixed s.0 x) was found.3,
        subst (λ (w : V). ViewAccounted w) (sym (ap (λ (s : Sat). s.0) out.1)) found.4,
      )
