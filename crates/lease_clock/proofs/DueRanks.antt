-- What a walk down from a place adds to a set of ranks.
use Rattle.std.proofs.Common.{◌≡◌, ◌⊎◌, ℕ, zero, suc, ◌+◌, ◌*◌, ◌^◌, ◌<◌, ◌≤◌, Option, None, Some, is_some, IsTrue, Bool, true, false, cond, inl, inr, List, [], ◌∷◌, map, filter, length, get_or, refl, ap, sym, ◌∙◌, subst, arith}
use Rattle.std.specs.List.{list_any}
use Rattle.std.specs.Ordering.{eq_by_cmp, nat_cmp, is_eq}
use Rattle.std.specs.Cmp.{tied_itself}
use Rattle.std.specs.BTreeSet.{BTreeSet, contains}
use Rattle.std.proofs.lemmas.Bool.{both_ways, cases_Bool, false_from_ne_true, or_cases, or_left, or_right}
use Rattle.std.proofs.lemmas.Bool.Decides.{nat_tests}
use Rattle.std.proofs.lemmas.List.{length-map}
use Rattle.std.proofs.lemmas.Map.Lookups.{exact_pairs, exact_unsigned}
use Rattle.std.proofs.lemmas.Map.Views.{tells_apart}
use Rattle.store_api.specs.Leases.{Lease, is_due, rank, rank_cmp}
use Rattle.lease_clock.specs.declared.tournament.KeptLease.{KeptLease}
use Rattle.lease_clock.specs.Kept.{Entry, HasRanks, due_ranks, entries_of, entry_of, is_running, lease_of, leases_of, when}
use Rattle.lease_clock.specs.Least.{AddsDue, AddsRank, IsTournament, deadline_at, least_at}
use Rattle.lease_clock.proofs.Numbers.{nothing}
use Rattle.lease_clock.proofs.Ranks.{rank_total}
use Rattle.lease_clock.proofs.Deadlines.{Part, all_under, deadline_is, least_under, part}
use Rattle.lease_clock.proofs.Places.{at_entry}

-- the two are one rank
abbrev pub same_rank : ℕ × ℕ → ℕ × ℕ → Bool
same_rank = eq_by_cmp rank_cmp

one_rank : (q r : ℕ × ℕ) → same_rank q r ≡ true → q ≡ r
one_rank q r e = tells_apart (exact_pairs nat_cmp nat_cmp exact_unsigned exact_unsigned) q r e

itself : (r : ℕ × ℕ) → same_rank r r ≡ true
itself r = ap is_eq (tied_itself rank_total r)

-- the rank of a deadline and number
abbrev pub rank_at : Option ℕ → ℕ → ℕ × ℕ
rank_at deadline number = (when deadline, number)

-- the rank of the entry
abbrev pub rank_of : Entry → ℕ × ℕ
rank_of entry = (when entry.deadline, entry.number)

-- some due lease has the rank
abbrev pub has_due_rank : ℕ → List Entry → ℕ × ℕ → Bool
has_due_rank t es q = list_any (same_rank q) (due_ranks t (leases_of es))

module _ (t : ℕ) (within : t < 2 ^ 64) where
  -- the rank of an entry that is due is among those of the due leases
  pub rank_among : (es : List Entry) (i : ℕ) (d : Entry) → i < length es → deadline_at es i ≤ t → IsTrue (has_due_rank t es (rank_of (get_or es i d)))
  rank_among [] i d lt le = absurd (omega arith)
  rank_among (x ∷ xs) zero d lt le =
      elim x.deadline as (λ o. when o ≤ t → list_any (same_rank (rank_at o x.number)) (due_ranks t (map lease_of (cond (is_some o) (record { number = x.number; seconds = x.seconds; deadline = o } ∷ filter is_running xs) (filter is_running xs)))) ≡ true) [
        | None ↦ λ h. absurd (omega (arith, h, within))
        | Some deadline ↦ λ h. let due : Rattle.std.specs.Prelude.nat_le deadline t ≡ true = grind (arith, nat_tests, h) in rw due (or_left _ _ (itself (deadline, x.number)))
      ] le
  rank_among (x ∷ xs) (suc i) d lt le = later x xs (rank_of (get_or xs i d)) (rank_among xs i d (omega arith) le)
    where
      due_later : (x : Lease) (live : List Lease) (q : ℕ × ℕ) → list_any (same_rank q) (due_ranks t live) ≡ true → list_any (same_rank q) (due_ranks t (x ∷ live)) ≡ true
      due_later x live q h =
          elim (is_due t x) as (λ b. list_any (same_rank q) (map rank (cond b (x ∷ filter (is_due t) live) (filter (is_due t) live))) ≡ true)
          [ true ↦ or_right _ _ h | false ↦ h ]

      later : (x : Entry) (xs : List Entry) (q : ℕ × ℕ) → IsTrue (has_due_rank t xs q) → IsTrue (has_due_rank t (x ∷ xs) q)
      later x xs q h =
          elim (is_some x.deadline) as (λ b. list_any (same_rank q) (due_ranks t (map lease_of (cond b (x ∷ filter is_running xs) (filter is_running xs)))) ≡ true)
          [ true ↦ due_later (lease_of x) (leases_of xs) q h | false ↦ h ]

  -- and each of these is the rank of an entry that is due
  pub record HasEntry (es : List Entry) (q : ℕ × ℕ) : Type 0 where
    pub place : ℕ
    pub inside : place < length es
    pub due : deadline_at es place ≤ t
    pub is : q ≡ rank_of (get_or es place nothing)

  behind : (x : Entry) (xs : List Entry) (q : ℕ × ℕ) → HasEntry xs q → HasEntry (x ∷ xs) q
  behind x xs q has = record { place = suc has.place; inside = omega (arith, has.inside); due = has.due; is = has.is }

  pub entry_of_rank : (es : List Entry) (q : ℕ × ℕ) → IsTrue (has_due_rank t es q) → HasEntry es q
  entry_of_rank [] q h = absurd (Rattle.std.proofs.lemmas.Bool.false≢true h)
  entry_of_rank (x ∷ xs) q h =
      elim (is_some x.deadline) as (λ b. list_any (same_rank q) (due_ranks t (map lease_of (cond b (x ∷ filter is_running xs) (filter is_running xs)))) ≡ true → HasEntry (x ∷ xs) q) [
        | true ↦ λ h.
            elim (is_due t (lease_of x)) as (λ b. is_due t (lease_of x) ≡ b → list_any (same_rank q) (map rank (cond b (lease_of x ∷ filter (is_due t) (leases_of xs)) (filter (is_due t) (leases_of xs)))) ≡ true → HasEntry (x ∷ xs) q) [
              | true ↦ λ due h.
                  elim (or_cases _ _ h) [
                    | inl here ↦ record { place = zero; inside = omega arith; due = Rattle.std.proofs.lemmas.Bool.leb-true _ _ due; is = one_rank q _ here }
                    | inr later ↦ behind x xs q (entry_of_rank xs q later)
                  ]
              | false ↦ λ due h. behind x xs q (entry_of_rank xs q h)
            ] refl h
        | false ↦ λ h. behind x xs q (entry_of_rank xs q h)
      ] h

  -- a walk from the first place adds the ranks of all due leases to an empty set
  pub has_ranks : (kept : List KeptLease) (old new : BTreeSet (ℕ × ℕ)) → ((q : ℕ × ℕ) → contains rank_cmp old q ≡ false) → AddsDue kept 0 t old new → HasRanks new (due_ranks t (leases_of (entries_of kept)))
  has_ranks kept old new none adds q =
      elim (cases_Bool (has_due_rank t (entries_of kept) q)) [
        | inl some ↦
            let has = entry_of_rank (entries_of kept) q some in
            let added = adds.all has.place nothing (all_under has.place has.place (omega arith)) (omega (arith, has.inside, length-map kept entry_of)) has.due in
            ap (contains rank_cmp new) has.is ∙ added ∙ sym some
        | inr none_due ↦
            false_from_ne_true _ (λ e. elim (adds.only q e) [ inl before ↦ both_ways _ (none q) before | inr due ↦ both_ways _ none_due due ]) ∙ sym none_due
      ]

  -- where the place keeps a later deadline, nothing is to be added
  pub adds_none : (kept : List KeptLease) (p : ℕ) (set : BTreeSet (ℕ × ℕ)) → IsTournament kept → t < least_at kept p → AddsDue kept p t set set
  adds_none kept p set settled later = record {
    stay = λ q h. h;
    all = λ i d under lt due. absurd (omega (arith, later, due, least_under kept settled p i under, settled i));
    only = λ q h. inl h;
  }

  -- a lease that is not due adds nothing
  pub none_added : (entry : Entry) (set : BTreeSet (ℕ × ℕ)) → t < when entry.deadline → AddsRank entry t set set
  none_added entry set later = record { stay = λ q h. h; here = λ le. absurd (omega (arith, later, le)); only = λ q h. inl h }

  -- and one that is due its rank
  pub one_added : (entry : Entry) (time : ℕ) (old new : BTreeSet (ℕ × ℕ)) → entry.deadline ≡ Some time → time ≤ t
      → ((q : ℕ × ℕ) → contains rank_cmp new q ≡ cond (same_rank (time, entry.number) q) true (contains rank_cmp old q)) → AddsRank entry t old new
  one_added entry time old new is le updates =
      let own : (time, entry.number) ≡ rank_of entry = ap (λ (o : Option ℕ). rank_at o entry.number) (sym is) in
      record {
        stay = λ q h. updates q ∙ one_or (same_rank (time, entry.number) q) _ h;
        here = λ due. subst (λ (q : ℕ × ℕ). IsTrue (contains rank_cmp new q)) own (updates (time, entry.number) ∙ rw (itself (time, entry.number)) refl);
        only = λ q h.
            elim (either (same_rank (time, entry.number) q) _ (sym (updates q) ∙ h)) [
              | inl before ↦ inl before
              | inr same ↦ inr (omega (arith, ap when is, le), subst (λ (r : ℕ × ℕ). IsTrue (same_rank r q)) own same)
            ];
      }
    where
      one_or : (b old : Bool) → old ≡ true → cond b true old ≡ true
      one_or true old h = refl
      one_or false old h = h

      either : (b old : Bool) → cond b true old ≡ true → (old ≡ true) ⊎ (b ≡ true)
      either true old h = inr refl
      either false old h = inl h

  -- else its own lease and those under the two places right under it
  module _ (kept : List KeptLease) (p : ℕ) (lt : p < length kept) (old own left new : BTreeSet (ℕ × ℕ)) where
    pub record AddsOwn : Type 0 where
      pub stay : (q : ℕ × ℕ) → IsTrue (contains rank_cmp old q) → IsTrue (contains rank_cmp own q)
      pub here : (d : Entry) → deadline_at (entries_of kept) p ≤ t → IsTrue (contains rank_cmp own (rank_of (get_or (entries_of kept) p d)))
      pub only : (q : ℕ × ℕ) → IsTrue (contains rank_cmp own q) → IsTrue (contains rank_cmp old q) ⊎ IsTrue (has_due_rank t (entries_of kept) q)

    pub own_added : (d : KeptLease) → AddsRank (entry_of (get_or kept p d)) t old own → AddsOwn
    own_added d rank = record {
      stay = rank.stay;
      here = λ d' due. subst (λ (e : Entry). IsTrue (contains rank_cmp own (rank_of e))) (sym (at_entry kept p d d' lt)) (rank.here (omega (arith, due, deadline_is kept p d lt)));
      only = λ q h.
          elim (rank.only q h) [
            | inl before ↦ inl before
            | inr due ↦
                let among = rank_among (entries_of kept) p nothing (omega (arith, lt, length-map kept entry_of)) (omega (arith, due.0, deadline_is kept p d lt)) in
                inr (subst (λ (r : ℕ × ℕ). IsTrue (has_due_rank t (entries_of kept) r)) (one_rank _ _ due.1) (subst (λ (e : Entry). IsTrue (has_due_rank t (entries_of kept) (rank_of e))) (at_entry kept p d nothing lt) among))
          ];
    }

    pub adds_all : AddsOwn → AddsDue kept (2 * p + 1) t own left → AddsDue kept (2 * p + 2) t left new → AddsDue kept p t old new
    adds_all first second third = record {
      stay = λ q h. third.stay q (second.stay q (first.stay q h));
      all = λ i d under inside due.
          elim (part p i under) [
            | Part.itself e ↦
                third.stay _ (second.stay _ (subst (λ (k : ℕ). IsTrue (contains rank_cmp own (rank_of (get_or (entries_of kept) k d)))) (sym e) (first.here d (subst (λ (k : ℕ). deadline_at (entries_of kept) k ≤ t) e due))))
            | Part.on_left under ↦ third.stay _ (second.all i d under inside due)
            | Part.on_right under ↦ third.all i d under inside due
          ];
      only = λ q h.
          elim (third.only q h) [
            | inr due ↦ inr due
            | inl in_left ↦ elim (second.only q in_left) [ inr due ↦ inr due | inl in_own ↦ first.only q in_own ]
          ];
    }
