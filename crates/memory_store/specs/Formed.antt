-- What every history of a store is like.
-- Source: etcd's API, KV service (Txn: a key is changed at most once; a revision is of a change) and
-- Lease service (an expiry deletes live keys).
use Rattle.std.specs.Prelude.{ℕ, ◌+◌, ◌<◌, ◌≤◌, List, map, length, All, IsTrue, is_some}
use Rattle.std.specs.List.{IsDistinct}
use Rattle.mesh_base.specs.Order.{same_bytes}
use Rattle.store_api.specs.Attached.{all_lapsed}
use Rattle.store_api.specs.Followed.{changed_key}
use Rattle.store_api.specs.History.{History, Pairs, revision, changes_at, live_at, key_of, committed}
use Rattle.store_api.specs.declared.change.Change.{Change}
use Rattle.store_api.specs.declared.change.Change.TheVariants as change
use Rattle.store_api.specs.declared.change.Op.{Op}

-- a deletion is of a live key
abbrev pub IsFit : Pairs → Change → Type 0
IsFit live (change.Put key value lease) = Unit {0}
IsFit live (change.Delete key) = IsTrue (is_some (live key))

-- a revision over what is live: it changes something, no key twice, and deletes live keys alone
pub record IsRevision (live : Pairs) (changes : List Change) : Type 0 where
  pub some : 0 < length changes
  pub distinct : IsDistinct same_bytes (map changed_key changes)
  pub fit : All (IsFit live) changes

-- each revision is one over what was live before it
abbrev pub IsFormed : History → Type 0
IsFormed history = (r : ℕ) → 1 ≤ r → r < revision history → IsRevision (live_at history r) (changes_at history (r + 1))

-- a transaction keeps that
abbrev pub CommitsKeepForm : Type 0
CommitsKeepForm = (history : History) (ops : List Op) → IsFormed history → IsDistinct same_bytes (map key_of ops) → IsFormed (committed history ops)

-- and so does a lapse of leases
abbrev pub LapsesKeepForm : Type 0
LapsesKeepForm = (history : History) (leases : List ℕ) → IsFormed history → IsFormed (all_lapsed history leases)
