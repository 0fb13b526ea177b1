-- In what order the live leases stand, and the due ones lapse.
-- Source: etcd's API, Lease service (LeaseGrant). The order is this project's own.
use Rattle.std.specs.Prelude.{◌≡◌, ℕ, ◌<◌, ◌≤◌, List, [], ◌∷◌, map, filter}
use Rattle.std.specs.List.{list_any}
use Rattle.std.specs.List.Sorted.{IsStrictlySortedBy}
use Rattle.std.specs.Ordering.{eq_by_cmp}
use Rattle.std.specs.FinMap.{keys}
use Rattle.store_api.specs.Leases.{Lease, LeaseTable, is_due, rank, rank_cmp, due_by_rank}

-- the ranks in that order rise strictly, and are those of the leases that are due
pub record IsInOrder (table : LeaseTable) : Type 0 where
  pub rises : IsStrictlySortedBy rank_cmp (keys (due_by_rank table))
  pub members : (r : ℕ × ℕ) → list_any (eq_by_cmp rank_cmp r) (keys (due_by_rank table)) ≡ list_any (eq_by_cmp rank_cmp r) (map rank (filter (is_due table.now) table.live))

-- the order of the due leases in every table
abbrev pub DueInOrder : Type 0
DueInOrder = (table : LeaseTable) → IsInOrder table

-- the numbers rise from above `low`, and end at most at `last`
abbrev pub IsNumbered : ℕ → List Lease → ℕ → Type 0
IsNumbered low [] last = low ≤ last
IsNumbered low (lease ∷ live) last = (low < lease.number) × IsNumbered lease.number live last
