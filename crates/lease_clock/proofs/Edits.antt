-- What an edit of the kept leases does to the table that they stand for.
use Rattle.std.proofs.Common.{◌≡◌, ℕ, ◌+◌, Option, None, Some, Bool, true, false, IsTrue, List, [], ◌∷◌, ◌++◌, map, filter, get_or, cond, is_some, refl, ap, sym, ◌∙◌, subst, arith}
use Rattle.std.proofs.lemmas.List.{map_push}
use Rattle.store_api.specs.Leases.{Lease, LeaseTable, is_live_lease, deadline_at, deadline_of, renewed, revoked}
use Rattle.lease_clock.specs.declared.tournament.KeptLease.{KeptLease}
use Rattle.lease_clock.specs.Kept.{Entry, IsPlace, entries_of, entry_of, is_running, lease_of, leases_of, with_deadline}
use Rattle.lease_clock.specs.Lapses.{IsNumbered}
use Rattle.lease_clock.specs.Least.{Ends, IsKept, IsTournament, Moves}
use Rattle.lease_clock.proofs.Numbers.{deadline_moved, found, gone, leases_push, moved, nothing, numbered_live, numbered_push, numbered_with, running_again}

-- a table with these leases
abbrev pub table_of : ℕ → ℕ → List Lease → LeaseTable
table_of now last live = record { now = now; live = live; last = last }

-- ---- a grant
module _ (items new : List KeptLease) (last : ℕ) (w : KeptLease) (time : ℕ) (deadline : w.deadline ≡ Some time) (number : w.number ≡ last + 1) (same : entries_of new ≡ entries_of (items ++ w ∷ [])) where
  entries_are : entries_of new ≡ entries_of items ++ entry_of w ∷ []
  entries_are = same ∙ map_push entry_of items w

  pub kept_push : IsKept items last → IsTournament new → IsKept new w.number
  kept_push kept settled = record {
    numbered = rw (entries_are, map_push lease_of (entries_of items) (entry_of w)) (numbered_push last 0 (map lease_of (entries_of items)) (lease_of (entry_of w)) kept.numbered (omega (arith, number)));
    settled = settled;
  }

  pub leases_are : leases_of (entries_of new) ≡ leases_of (entries_of items) ++ lease_of (entry_of w) ∷ []
  leases_are = ap leases_of entries_are ∙ leases_push (entries_of items) (entry_of w) (ap is_some deadline)

-- ---- another deadline at a place
module _ (items new : List KeptLease) (last i : ℕ) (t : Option ℕ) (kept : IsKept items last) (moves : Moves items i t new) where
  pub kept_move : IsKept new last
  kept_move = record {
    numbered = subst (λ (es : List Entry). IsNumbered 0 (map lease_of es) last) (sym moves.entries) (numbered_with last 0 i t (entries_of items) kept.numbered);
    settled = moves.settled;
  }

  module _ (n now : ℕ) (place : IsPlace (entries_of items) n (Some i)) where
    number_is : let e = get_or (entries_of items) i nothing in e.number ≡ n
    number_is = (place.1 nothing).0

    running : IsTrue (is_running (get_or (entries_of items) i nothing))
    running = (place.1 nothing).1

    pub renews : (time : ℕ) → t ≡ Some time → let e = get_or (entries_of items) i nothing in time ≡ deadline_at now e.seconds
        → leases_of (entries_of new) ≡ (renewed n (table_of now last (leases_of (entries_of items)))).live
    renews time is at =
        ap leases_of (moves.entries ∙ ap (λ (o : Option ℕ). with_deadline i o (entries_of items)) is)
        ∙ moved last n now 0 i time (entries_of items) nothing kept.numbered place.0 number_is running at

    pub deadline_is : (time : ℕ) → t ≡ Some time → let e = get_or (entries_of items) i nothing in time ≡ deadline_at now e.seconds
        → deadline_of n (table_of now last (leases_of (entries_of new))) ≡ Some time
    deadline_is time is at = rw (renews time is at) (deadline_moved last n now 0 i (entries_of items) nothing kept.numbered place.0 number_is running ∙ ap Some (sym at))

    pub revokes : t ≡ None → leases_of (entries_of new) ≡ (revoked n (table_of now last (leases_of (entries_of items)))).live
    revokes is =
        ap leases_of (moves.entries ∙ ap (λ (o : Option ℕ). with_deadline i o (entries_of items)) is)
        ∙ gone last n 0 i (entries_of items) nothing kept.numbered place.0 number_is running

    pub is_there : is_live_lease (leases_of (entries_of items)) n ≡ true
    is_there = found last n i (entries_of items) nothing place.0 number_is running

-- ---- a lapse
pub kept_end : (items new : List KeptLease) (time last : ℕ) → IsKept items last → Ends items time new → IsKept new last
kept_end items new time last kept ends = record { numbered = ends.numbered 0 last kept.numbered; settled = ends.settled }

-- ---- ended leases are dropped
left : (p : KeptLease → Bool) → ((x : KeptLease) → p x ≡ is_some x.deadline) → (items : List KeptLease) → entries_of (filter p items) ≡ filter is_running (entries_of items)
left p is [] = refl
left p is (x ∷ xs) =
    let others = left p is xs in
    rw (is x) (elim (is_some x.deadline) as (λ b. entries_of (cond b (x ∷ filter p xs) (filter p xs)) ≡ cond b (entry_of x ∷ filter is_running (entries_of xs)) (filter is_running (entries_of xs)))
    [ true ↦ ap (λ (l : List Entry). entry_of x ∷ l) others | false ↦ others ])

module _ (items new : List KeptLease) (last : ℕ) (p : KeptLease → Bool) (is : (x : KeptLease) → p x ≡ is_some x.deadline) (same : entries_of new ≡ entries_of (filter p items)) where
  running_only : entries_of new ≡ filter is_running (entries_of items)
  running_only = same ∙ left p is items

  pub kept_drop : IsKept items last → IsTournament new → IsKept new last
  kept_drop kept settled = record {
    numbered = subst (λ (es : List Entry). IsNumbered 0 (map lease_of es) last) (sym running_only) (numbered_live last 0 (entries_of items) kept.numbered);
    settled = settled;
  }

  pub drops : leases_of (entries_of new) ≡ leases_of (entries_of items)
  drops = ap leases_of running_only ∙ ap (map lease_of) (running_again (entries_of items))
