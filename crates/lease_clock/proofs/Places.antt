-- Where a binary search by number ends.
use Rattle.std.proofs.Common.{◌≡◌, ℕ, ◌<◌, ◌≤◌, Option, None, Some, is_some, inl, inr, List, map, length, get_or, false, Result, Ok, Err, ap, sym, subst, ◌∙◌, arith}
use Rattle.std.specs.List.Sorted.{IsSearchInRange, IsBinarySearchResult, IsNonDecreasingBy}
use Rattle.std.specs.Ordering.{nat_cmp, ordering_index}
use Rattle.std.specs.Result.{result_ok}
use Rattle.std.proofs.lemmas.Cmp.{ranked}
use Rattle.std.proofs.lemmas.List.{get_or-map, length-map}
use Rattle.std.proofs.lemmas.Bool.{cases_lt}
use Rattle.std.proofs.lemmas.Bool.Decides.{nat_tests}
use Rattle.store_api.specs.Leases.{Lease, is_live_lease}
use Rattle.lease_clock.specs.declared.tournament.KeptLease.{KeptLease}
use Rattle.lease_clock.specs.Kept.{Entry, IsPlace, entries_of, entry_of, lease_of, leases_of}
use Rattle.lease_clock.specs.Lapses.{IsNumbered}
use Rattle.lease_clock.proofs.Numbers.{found, none_at, nothing, rises}

spare : KeptLease
spare = record { number = 0; seconds = 0; deadline = None; least = None }

-- an entry, as it is kept
pub at_entry : (items : List KeptLease) (i : ℕ) (d : KeptLease) (e : Entry) → i < length items → get_or (entries_of items) i e ≡ entry_of (get_or items i d)
at_entry items i d e lt = get_or-map entry_of items i d e lt

module _ (items : List KeptLease) (last n : ℕ) (numbered : IsNumbered 0 (map lease_of (entries_of items)) last) where
  len_entries : length (entries_of items) ≡ length items
  len_entries = length-map items entry_of

  -- a lease behind its entry
  at_lease : (i : ℕ) (d : KeptLease) → i < length items → get_or (map lease_of (entries_of items)) i (lease_of (entry_of d)) ≡ lease_of (entry_of (get_or items i d))
  at_lease i d lt = get_or-map lease_of (entries_of items) i (entry_of d) (lease_of (entry_of d)) (omega (arith, len_entries, lt)) ∙ ap lease_of (at_entry items i d (entry_of d) lt)

  numbers_rise : (i j : ℕ) (d : KeptLease) → i ≤ j → j < length items → let a = get_or items i d in let b = get_or items j d in a.number ≤ b.number
  numbers_rise i j d le lt =
      let first = ap (λ (lease : Lease). lease.number) (at_lease i d (omega arith)) in
      let second = ap (λ (lease : Lease). lease.number) (at_lease j d lt) in
      omega (arith, first, second, rises last 0 i j (map lease_of (entries_of items)) (lease_of (entry_of d)) numbered le (omega (arith, length-map (entries_of items) lease_of, len_entries)))

  comparisons_rise : IsNonDecreasingBy (λ (kept : KeptLease). ordering_index (nat_cmp kept.number n)) items
  comparisons_rise i j d le lt = grind (arith, nat_tests, numbers_rise i j d le lt)

  -- a search that ends at a place ends at the number
  pub found_number : (at : ℕ) → IsSearchInRange (Ok at) (length items) → IsBinarySearchResult (λ (kept : KeptLease). nat_cmp kept.number n) items (Ok at) → (d : Entry) → let entry = get_or (entries_of items) at d in entry.number ≡ n
  unfolding spare
  found_number at in_range equal d = ap (λ (entry : Entry). entry.number) (at_entry items at spare d in_range) ∙ ranked _ n _ (sym (equal spare))

  -- and one that ends between places says that no live lease has it
  pub not_found : (at : ℕ) → IsBinarySearchResult (λ (kept : KeptLease). nat_cmp kept.number n) items (Err at) → is_live_lease (leases_of (entries_of items)) n ≡ false
  unfolding spare
  not_found at parted =
      let parts = parted comparisons_rise in
      none_at last n (entries_of items) nothing (λ j lt e.
      let within : j < length items = omega (arith, len_entries, lt) in
      let here = ap (λ (entry : Entry). entry.number) (at_entry items j spare nothing within) in
      elim (cases_lt j at) [
        | inl below ↦ let less = ranked _ n _ (sym (parts.0 j spare (omega arith) below)) in omega (arith, less, here, e)
        | inr after ↦ let more = ranked _ n _ (sym (parts.1 j spare after within)) in omega (arith, more, here, e)
      ])

  -- what a search answers
  pub answers_none : (r : Result ℕ ℕ) → IsBinarySearchResult (λ (kept : KeptLease). nat_cmp kept.number n) items r → result_ok r ≡ None → is_live_lease (leases_of (entries_of items)) n ≡ false
  answers_none (Ok at) found none = cc
  answers_none (Err at) parted none = not_found at parted

  pub answers_some : (r : Result ℕ ℕ) → IsSearchInRange r (length items) → IsBinarySearchResult (λ (kept : KeptLease). nat_cmp kept.number n) items r → (at : ℕ) → result_ok r ≡ Some at → (at < length items) × ((d : Entry) → let entry = get_or (entries_of items) at d in entry.number ≡ n)
  answers_some (Ok at') in_range equal at is =
      subst (λ (k : ℕ). (k < length items) × ((d : Entry) → let entry = get_or (entries_of items) k d in entry.number ≡ n)) (some_is at' at is) (in_range, found_number at' in_range equal)
    where
      some_is : (a b : ℕ) → Some a ≡ Some b → a ≡ b
      some_is a b e = cc
  answers_some (Err at') in_range parted at is = cc

-- a place that was searched among the same entries
pub placed : (items now : List KeptLease) (last n : ℕ) (o : Option ℕ) → now ≡ items → IsNumbered 0 (map lease_of (entries_of items)) last
    → ((last : ℕ) → IsNumbered 0 (map lease_of (entries_of now)) last → IsPlace (entries_of now) n o) → IsPlace (entries_of items) n o
placed items now last n o e numbered place = subst (λ (kept : List KeptLease). IsPlace (entries_of kept) n o) e (place last (rw e numbered))

-- a number has a place exactly where it is live
pub lives : (es : List Entry) (n : ℕ) (o : Option ℕ) → IsPlace es n o → is_some o ≡ is_live_lease (leases_of es) n
lives es n None h = sym h
lives es n (Some at) h = sym (found 0 n at es nothing h.0 (h.1 nothing).0 (h.1 nothing).1)
