-- The leases as a tournament of their deadlines: each place keeps the least deadline of its own lease
-- and of those under it. Those under the place i stand at 2 i + 1 and 2 i + 2 and under these, as in a
-- binary heap.
use Rattle.std.specs.Prelude.{◌≡◌, ◌≢◌, ℕ, ◌+◌, ◌*◌, ◌^◌, ◌<◌, ◌≤◌, ◌⊎◌, min, false, List, map, filter, not, length, slice_index_or, Option, None, Some, IsTrue}
use Rattle.std.specs.List.{list_any}
use Rattle.std.specs.Ordering.{eq_by_cmp}
use Rattle.std.specs.BTreeSet.{BTreeSet, contains}
use Rattle.store_api.specs.Leases.{Lease, is_due, rank_cmp}
use Rattle.lease_clock.specs.declared.tournament.KeptLease.{KeptLease}
use Rattle.lease_clock.specs.Kept.{Entry, due_ranks, entries_of, lease_of, leases_of, when, with_deadline}
use Rattle.lease_clock.specs.Lapses.{IsNumbered}

-- the deadline at the place
abbrev pub deadline_at : List Entry → ℕ → ℕ
deadline_at entries place = slice_index_or (map (λ (entry : Entry). when entry.deadline) entries) place (2 ^ 64)

-- the least deadline kept at the place
abbrev pub least_at : List KeptLease → ℕ → ℕ
least_at kept place = slice_index_or (map (λ (at : KeptLease). when at.least) kept) place (2 ^ 64)

-- the place keeps the least of its own deadline and of what the two places under it keep
abbrev pub IsSettled : List KeptLease → ℕ → Type 0
IsSettled kept place = least_at kept place ≡ min (min (deadline_at (entries_of kept) place) (least_at kept (2 * place + 1))) (least_at kept (2 * place + 2))

-- each place does
abbrev pub IsTournament : List KeptLease → Type 0
IsTournament kept = (place : ℕ) → IsSettled kept place

-- the leases stay, the place is settled, and so is each that was and that has it not right under it
pub record Settles (old : List KeptLease) (place : ℕ) (new : List KeptLease) : Type 0 where
  pub entries : entries_of new ≡ entries_of old
  pub here : IsSettled new place
  pub others : (other : ℕ) → 2 * other + 1 ≢ place → 2 * other + 2 ≢ place → IsSettled old other → IsSettled new other

-- the lease at the place has this deadline from now on
pub record Moves (old : List KeptLease) (place : ℕ) (deadline : Option ℕ) (new : List KeptLease) : Type 0 where
  pub entries : entries_of new ≡ with_deadline place deadline (entries_of old)
  pub settled : IsTournament new

-- the leases that are due at the time have ended, and the numbers stay where they are
pub record Ends (old : List KeptLease) (time : ℕ) (new : List KeptLease) : Type 0 where
  pub leases : leases_of (entries_of new) ≡ filter (λ (lease : Lease). not (is_due time lease)) (leases_of (entries_of old))
  pub numbered : (low last : ℕ) → IsNumbered low (map lease_of (entries_of old)) last → IsNumbered low (map lease_of (entries_of new)) last
  pub settled : IsTournament new

-- where a lease is due at the time
abbrev pub IsDuePlace : List KeptLease → ℕ → Option ℕ → Type 0
IsDuePlace kept time None = list_any (is_due time) (leases_of (entries_of kept)) ≡ false
IsDuePlace kept time (Some place) = (place < length kept) × (deadline_at (entries_of kept) place ≤ time)

-- the place, and each that stands under it
pub data IsUnder (place : ℕ) : ℕ → Type 0 where
  Here : IsUnder place place
  Left : (other : ℕ) → IsUnder place other → IsUnder place (2 * other + 1)
  Right : (other : ℕ) → IsUnder place other → IsUnder place (2 * other + 2)

-- the set has the ranks that it had, that of the lease where it is due at the time, and no other
pub record AddsRank (entry : Entry) (time : ℕ) (old new : BTreeSet (ℕ × ℕ)) : Type 0 where
  pub stay : (q : ℕ × ℕ) → IsTrue (contains rank_cmp old q) → IsTrue (contains rank_cmp new q)
  pub here : when entry.deadline ≤ time → IsTrue (contains rank_cmp new (when entry.deadline, entry.number))
  pub only : (q : ℕ × ℕ) → IsTrue (contains rank_cmp new q) → IsTrue (contains rank_cmp old q) ⊎ ((when entry.deadline ≤ time) × IsTrue (eq_by_cmp rank_cmp (when entry.deadline, entry.number) q))

-- the set has the ranks that it had and those of the leases at the place and under it that are due,
-- and else only ranks of leases that are due
pub record AddsDue (kept : List KeptLease) (place time : ℕ) (old new : BTreeSet (ℕ × ℕ)) : Type 0 where
  pub stay : (q : ℕ × ℕ) → IsTrue (contains rank_cmp old q) → IsTrue (contains rank_cmp new q)
  pub all : (at : ℕ) (d : Entry) → IsUnder place at → at < length kept → deadline_at (entries_of kept) at ≤ time → let entry = slice_index_or (entries_of kept) at d in IsTrue (contains rank_cmp new (when entry.deadline, entry.number))
  pub only : (q : ℕ × ℕ) → IsTrue (contains rank_cmp new q) → IsTrue (contains rank_cmp old q) ⊎ IsTrue (list_any (eq_by_cmp rank_cmp q) (due_ranks time (leases_of (entries_of kept))))

-- what holds of the fields of every value
pub record IsKept (kept : List KeptLease) (last : ℕ) : Type 0 where
  pub numbered : IsNumbered 0 (map lease_of (entries_of kept)) last
  pub settled : IsTournament kept
