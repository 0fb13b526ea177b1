-- What the store keeps beside its log, and how a listing is made of it.
use Rattle.std.specs.Prelude.{◌≡◌, ℕ, ◌≤◌, ◌-◌, ◌^◌, List, length, map, Option, None, Some, if◌then◌else◌}
use Rattle.std.specs.Ordering.{nat_cmp}
use Rattle.std.specs.Cmp.Lexicographic.{slice_cmp}
use Rattle.std.specs.List.Sorted.{IsStrictlySortedBy}
use Rattle.std.specs.Map.{lookup, keys_of}
use Rattle.std.specs.BTreeMap.{BTreeMap, get, is_at}
use Rattle.store_api.specs.Attached.{lease_after_all, lease_of}
use Rattle.store_api.specs.History.{History, Pairs, revision, live_at, after_changes, in_range, in_ranges, entry_of}
use Rattle.store_api.specs.Leases.{LeaseTable}
use Rattle.store_api.specs.declared.change.Change.{Change}
use Rattle.store_api.specs.declared.change.Pair.{Pair}
use Rattle.store_api.specs.declared.change.Range.{Range}
use Rattle.memory_store.specs.declared.live.Current.{Current}
use Rattle.memory_store.specs.declared.live.Made.{Made}
use Rattle.memory_store.specs.Entries.{StoreLog, contents_of}
use Rattle.memory_store.specs.Formed.{IsFormed}
use Rattle.memory_store.specs.Index.{HasKeys}
use Rattle.memory_store.specs.Writers.{writers_of}

-- the history of the kept revisions
abbrev pub history_in : List Made → History
history_in history = map (λ (made : Made). made.changes) history

-- the writers of the kept revisions
abbrev pub writers_in : List Made → List ℕ
writers_in history = map (λ (made : Made). made.writer) history

-- the map has what is live at the revision of the history
abbrev pub HasLive : History → BTreeMap (List ℕ) (List ℕ) → Type 0
HasLive history live = (k : List ℕ) → get (slice_cmp nat_cmp) live k ≡ live_at history (revision history) k

-- the map has the lease of each key
abbrev pub HasLeases : History → BTreeMap (List ℕ) ℕ → Type 0
HasLeases history leases = (k : List ℕ) → get (slice_cmp nat_cmp) leases k ≡ lease_of history k

-- what is live, and the leases, are those of the history
pub record IsCurrentIn (history : History) (current : Current) : Type 0 where
  pub live : HasLive history current.live
  pub leases : HasLeases history current.attached.leases
  pub keys : HasKeys current.attached.leases current.attached.keys

-- the same, where it is there
abbrev pub IsCurrent : History → Option Current → Type 0
IsCurrent history None = Unit {0}
IsCurrent history (Some current) = IsCurrentIn history current

-- what is live, and the leases, after the changes
pub record IsAfter (changes : List Change) (old new : Current) : Type 0 where
  pub live : (k : List ℕ) → get (slice_cmp nat_cmp) new.live k ≡ after_changes k (get (slice_cmp nat_cmp) old.live k) changes
  pub leases : (k : List ℕ) → get (slice_cmp nat_cmp) new.attached.leases k ≡ lease_after_all k (get (slice_cmp nat_cmp) old.attached.leases k) changes
  pub keys : HasKeys new.attached.leases new.attached.keys

-- what holds of the fields of every store
pub record IsKept (log : StoreLog) (history : List Made) (compacted : ℕ) (leases : LeaseTable) (kept : Option Current) : Type 0 where
  pub contents : contents_of log ≡ record { history = history_in history; compacted = compacted; leases = leases }
  pub writers : writers_in history ≡ writers_of log
  pub few : length history ≤ 2 ^ 63 - 2
  pub formed : IsFormed (history_in history)
  pub current : IsCurrent (history_in history) kept

-- the first that is there
abbrev pub first_of : Option (List ℕ) → Option (List ℕ) → Option (List ℕ)
first_of None old = old
first_of (Some value) old = Some value

-- what is live in the range, over what was there before
abbrev pub gathered : Range → Pairs → Pairs → Pairs
gathered range live old k = first_of (if in_range k range then live k else None) (old k)

-- the pairs are what is live in the ranges, in byte order of the keys
pub record IsListed (ranges : List Range) (live : Pairs) (pairs : List Pair) : Type 0 where
  pub order : IsStrictlySortedBy (slice_cmp nat_cmp) (keys_of (map entry_of pairs))
  pub alike : (k : List ℕ) → lookup (is_at (slice_cmp nat_cmp k)) (map entry_of pairs) ≡ (if in_ranges ranges k then live k else None)
