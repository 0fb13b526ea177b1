-- Which lease a key is attached to, and what a lapse of leases does to a history.
-- Source: etcd's API, Lease service (a key is attached to the lease of its last put; when a lease
-- expires, all keys attached to it are deleted in one revision).
use Rattle.std.specs.Prelude.{ℕ, zero, suc, ◌==◌, List, [], ◌∷◌, map, filter, Bool, false, if◌then◌else◌, Option, None, Some}
use Rattle.std.specs.FinMap.{keys}
use Rattle.mesh_base.specs.Order.{same_bytes}
use Rattle.store_api.specs.History.{History, revision, changes_at, map_at, with_revision}
use Rattle.store_api.specs.declared.change.Change.{Change}
use Rattle.store_api.specs.declared.change.Change.TheVariants as change

-- the key's lease after a change: a put attaches it to the lease that it names or to none, and a
-- deletion ends that
abbrev pub lease_after : List ℕ → Option ℕ → Change → Option ℕ
lease_after k old (change.Put key value lease) = if same_bytes key k then lease else old
lease_after k old (change.Delete key) = if same_bytes key k then None else old

abbrev pub lease_after_all : List ℕ → Option ℕ → List Change → Option ℕ
lease_after_all k old [] = old
lease_after_all k old (c ∷ changes) = lease_after_all k (lease_after k old c) changes

-- the lease that the key is attached to at revision r: that of its last change up to there, where
-- this is a put that names one
abbrev pub lease_at : History → ℕ → List ℕ → Option ℕ
lease_at history zero k = None
lease_at history (suc r) k = lease_after_all k (lease_at history r k) (changes_at history (suc r))

-- the lease that the key is attached to
abbrev pub lease_of : History → List ℕ → Option ℕ
lease_of history k = lease_at history (revision history) k

abbrev pub is_lease : ℕ → Option ℕ → Bool
is_lease number None = false
is_lease number (Some lease) = lease == number

-- the live keys that are attached to the lease, in byte order
abbrev pub attached_keys : History → ℕ → List (List ℕ)
attached_keys history number = filter (λ (k : List ℕ). is_lease number (lease_of history k)) (keys (map_at history (revision history)))

abbrev pub deletions : List (List ℕ) → List Change
deletions ks = map (λ (k : List ℕ). change.Delete k) ks

-- the history after the lease lapsed: its keys are deleted in one revision, and without keys there
-- is none
abbrev pub lapsed : History → ℕ → History
lapsed history number = with_revision history (deletions (attached_keys history number))

-- the history after these leases lapsed, one after another
abbrev pub all_lapsed : History → List ℕ → History
all_lapsed history [] = history
all_lapsed history (number ∷ numbers) = all_lapsed (lapsed history number) numbers
