use Rattle.std.proofs.Common.{◌≡◌, ◌++◌, ℕ, List}
use Rattle.std.specs.Ordering.{nat_cmp}
use Rattle.std.specs.Cmp.Lexicographic.{slice_cmp}
use Rattle.std.specs.BTreeMap.{get}
use Rattle.store_api.specs.Attached.{deletions, lease_after_all}
use Rattle.store_api.specs.History.{after_changes}
use Rattle.memory_store.proofs.lapses.delete_keys.Given as goal

-- what is left deletes what all would
abbrev pub invariant-loop-key : goal.invariant-loop-key
invariant-loop-key l = record {
  changes_are : l.changes.items ++ deletions l.key-iterator ≡ deletions l.fn.keys.keys;
  live : (k : List ℕ) → after_changes k (get (slice_cmp nat_cmp) l.current.live k) (deletions l.key-iterator) ≡ after_changes k (get (slice_cmp nat_cmp) l.fn.current.live k) (deletions l.fn.keys.keys);
  leases : (k : List ℕ) → lease_after_all k (get (slice_cmp nat_cmp) l.current.attached.leases k) (deletions l.key-iterator) ≡ lease_after_all k (get (slice_cmp nat_cmp) l.fn.current.attached.leases k) (deletions l.fn.keys.keys);
  keys : l.current.attached.keys ≡ l.fn.current.attached.keys;
}
