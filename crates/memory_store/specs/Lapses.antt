-- What a lapse of leases deletes, and what is live then.
-- Source: etcd's API, Lease service (an expiry deletes the keys that are attached to the lease).
use Rattle.std.specs.Prelude.{◌≡◌, ℕ, List, ◌++◌}
use Rattle.std.specs.Ordering.{nat_cmp}
use Rattle.std.specs.Cmp.Lexicographic.{slice_cmp}
use Rattle.std.specs.BTreeMap.{get}
use Rattle.std.specs.BTreeSet.{BTreeSet, IsOrdered}
use Rattle.store_api.specs.Attached.{all_lapsed, attached_keys, deletions, lapsed, lease_after_all}
use Rattle.store_api.specs.History.{History, after_changes}
use Rattle.store_api.specs.declared.change.Change.{Change}
use Rattle.memory_store.specs.declared.live.Current.{Current}
use Rattle.memory_store.specs.Kept.{IsCurrentIn}

-- the keys are deleted in order, and those of each lease stay as kept
pub record Deletes (gone : BTreeSet (List ℕ)) (changes : List Change) (old new : Current) : Type 0 where
  pub ordered : IsOrdered (slice_cmp nat_cmp) gone
  pub changes_are : changes ≡ deletions gone.keys
  pub live : (k : List ℕ) → get (slice_cmp nat_cmp) new.live k ≡ after_changes k (get (slice_cmp nat_cmp) old.live k) changes
  pub leases : (k : List ℕ) → get (slice_cmp nat_cmp) new.attached.leases k ≡ lease_after_all k (get (slice_cmp nat_cmp) old.attached.leases k) changes
  pub keys : new.attached.keys ≡ old.attached.keys

-- the changes are those of a lapse of the lease over the history, and this is live after it
pub record Lapses (history : History) (lease : ℕ) (changes : List Change) (after : Current) : Type 0 where
  pub changes_are : changes ≡ deletions (attached_keys history lease)
  pub current : IsCurrentIn (lapsed history lease) after

-- these revisions are those of a lapse of the leases over the history, and this is live after them
pub record AllLapse (history : History) (leases : List ℕ) (revisions : History) (after : Current) : Type 0 where
  pub revisions_are : history ++ revisions ≡ all_lapsed history leases
  pub current : IsCurrentIn (all_lapsed history leases) after
