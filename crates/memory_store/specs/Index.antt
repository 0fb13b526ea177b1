-- The keys of each lease, as the store keeps them beside the lease of each key.
use Rattle.std.specs.Prelude.{◌≡◌, ℕ, List, Bool, false, Option, None, Some}
use Rattle.std.specs.Ordering.{nat_cmp}
use Rattle.std.specs.Cmp.Lexicographic.{slice_cmp}
use Rattle.std.specs.BTreeMap.{BTreeMap, get}
use Rattle.std.specs.BTreeSet.{BTreeSet, contains}
use Rattle.store_api.specs.Attached.{is_lease}

abbrev pub has_key : Option (BTreeSet (List ℕ)) → List ℕ → Bool
has_key None k = false
has_key (Some keys) k = contains (slice_cmp nat_cmp) keys k

-- the key is among those kept for the lease
abbrev pub is_under : BTreeMap ℕ (BTreeSet (List ℕ)) → ℕ → List ℕ → Bool
is_under keys number k = has_key (get nat_cmp keys number) k

-- for each lease just those keys are kept whose lease it is
abbrev pub HasKeys : BTreeMap (List ℕ) ℕ → BTreeMap ℕ (BTreeSet (List ℕ)) → Type 0
HasKeys leases keys = (number : ℕ) (k : List ℕ) → is_under keys number k ≡ is_lease number (get (slice_cmp nat_cmp) leases k)
