-- What the crate keeps of a lease table: each lease that was granted, ended ones too until they are
-- dropped.
use Rattle.std.specs.Prelude.{◌≡◌, ℕ, ◌<◌, ◌^◌, false, Bool, List, [], ◌∷◌, map, filter, length, slice_index_or, zero, suc, Option, None, Some, is_some, IsTrue}
use Rattle.std.specs.List.{list_any}
use Rattle.std.specs.Ordering.{eq_by_cmp}
use Rattle.std.specs.BTreeSet.{BTreeSet, contains}
use Rattle.store_api.specs.Leases.{Lease, LeaseTable, is_live_lease, is_due, rank, rank_cmp}
use Rattle.lease_clock.specs.declared.tournament.KeptLease.{KeptLease}

-- a lease that was granted, without a deadline once it has ended
pub record Entry : Type 0 where
  pub number : ℕ
  pub seconds : ℕ
  pub deadline : Option ℕ

-- a deadline, and behind the clock's last value one that never comes
abbrev pub when : Option ℕ → ℕ
when None = 2 ^ 64
when (Some deadline) = deadline

abbrev pub entry_of : KeptLease → Entry
entry_of kept = record { number = kept.number; seconds = kept.seconds; deadline = kept.deadline }

-- what is kept, without the least deadlines
abbrev pub entries_of : List KeptLease → List Entry
entries_of kept = map entry_of kept

-- the lease has not ended
abbrev pub is_running : Entry → Bool
is_running entry = is_some entry.deadline

abbrev pub lease_of : Entry → Lease
lease_of entry = record { number = entry.number; seconds = entry.seconds; deadline = when entry.deadline }

-- the live leases
abbrev pub leases_of : List Entry → List Lease
leases_of entries = map lease_of (filter is_running entries)

-- the entries, of which the one at the place has another deadline
abbrev pub with_deadline : ℕ → Option ℕ → List Entry → List Entry
with_deadline place deadline [] = []
with_deadline zero deadline (entry ∷ entries) = record entry { deadline = deadline } ∷ entries
with_deadline (suc place) deadline (entry ∷ entries) = entry ∷ with_deadline place deadline entries

-- the place of the lease with the number, where it is live
abbrev pub IsPlace : List Entry → ℕ → Option ℕ → Type 0
IsPlace entries number None = is_live_lease (leases_of entries) number ≡ false
IsPlace entries number (Some at) = (at < length entries) × ((d : Entry) → let entry = slice_index_or entries at d in (entry.number ≡ number) × IsTrue (is_running entry))

-- the table at this time
abbrev pub at_time : ℕ → LeaseTable → LeaseTable
at_time time table = record table { now = time }

-- the ranks of the leases that are due at the time
abbrev pub due_ranks : ℕ → List Lease → List (ℕ × ℕ)
due_ranks now live = map rank (filter (is_due now) live)

-- the set has these ranks and no others
abbrev pub HasRanks : BTreeSet (ℕ × ℕ) → List (ℕ × ℕ) → Type 0
HasRanks set ranks = (q : ℕ × ℕ) → contains rank_cmp set q ≡ list_any (eq_by_cmp rank_cmp q) ranks
