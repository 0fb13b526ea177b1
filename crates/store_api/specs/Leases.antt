-- Leases: the clock, the live leases, what each call does to them, and which of them are due.
-- Source: etcd's API, Lease service (LeaseGrant, LeaseKeepAlive, LeaseRevoke). That numbers may be
-- granted in turn, from 1 upwards, and that leases due together lapse by deadline and then number, is this
-- project's own.
use Rattle.std.specs.Prelude.{ℕ, ◌+◌, ◌-◌, ◌^◌, ◌==◌, nat_le, min, not, List, [], ◌∷◌, ◌++◌, map, filter, find, Bool, if◌then◌else◌, Option, option_map}
use Rattle.std.specs.List.{list_any}
use Rattle.std.specs.Ordering.{nat_cmp, ordering_then}
use Rattle.std.specs.declared.cmp.Ordering.{Ordering}
use Rattle.std.specs.FinMap.{FinMap, from_entries, keys}

-- a lease, with its time to live and its deadline in seconds
pub record Lease : Type 0 where
  pub number : ℕ
  pub seconds : ℕ
  pub deadline : ℕ

-- the clock in seconds, the live leases in order of their numbers, and the number granted last, or 0
pub record LeaseTable : Type 0 where
  pub now : ℕ
  pub live : List Lease
  pub last : ℕ

-- no lease, and the clock at 0
abbrev pub no_leases : LeaseTable
no_leases = record { now = 0; live = []; last = 0 }

abbrev pub is_live_lease : List Lease → ℕ → Bool
is_live_lease live number = list_any (λ (lease : Lease). lease.number == number) live

-- the time so many seconds after this one, and at most the clock's last value
abbrev pub deadline_at : ℕ → ℕ → ℕ
deadline_at now seconds = min (now + seconds) (2 ^ 64 - 1)

-- a lease that is granted with this number, for these seconds
abbrev pub new_lease : ℕ → ℕ → LeaseTable → Lease
new_lease number seconds table = record { number = number; seconds = seconds; deadline = deadline_at table.now seconds }

-- the table with that lease
abbrev pub granted_as : ℕ → ℕ → LeaseTable → LeaseTable
granted_as number seconds table = record table { live = table.live ++ new_lease number seconds table ∷ []; last = number }

-- the lease that is granted next where numbers are granted in turn
abbrev pub next_lease : ℕ → LeaseTable → Lease
next_lease seconds table = new_lease (table.last + 1) seconds table

-- the table with that lease
abbrev pub granted : ℕ → LeaseTable → LeaseTable
granted seconds table = granted_as (table.last + 1) seconds table

-- the lease, with its whole time to live from now on where it has the number
abbrev pub kept_alive : ℕ → ℕ → Lease → Lease
kept_alive now number lease = if lease.number == number then record lease { deadline = deadline_at now lease.seconds } else lease

-- the table with the deadline of the lease moved
abbrev pub renewed : ℕ → LeaseTable → LeaseTable
renewed number table = record table { live = map (kept_alive table.now number) table.live }

-- the deadline of the lease, where it is live
abbrev pub deadline_of : ℕ → LeaseTable → Option ℕ
deadline_of number table = option_map (λ (lease : Lease). lease.deadline) (find (λ (lease : Lease). lease.number == number) table.live)

-- the table with the clock moved
abbrev pub advanced : ℕ → LeaseTable → LeaseTable
advanced seconds table = record table { now = deadline_at table.now seconds }

-- the table without the lease
abbrev pub revoked : ℕ → LeaseTable → LeaseTable
revoked number table = record table { live = filter (λ (lease : Lease). not (lease.number == number)) table.live }

-- the deadline is not after the time
abbrev pub is_due : ℕ → Lease → Bool
is_due now lease = nat_le lease.deadline now

-- the table without the leases that are due
abbrev pub expired : LeaseTable → LeaseTable
expired table = record table { live = filter (λ (lease : Lease). not (is_due table.now lease)) table.live }

-- what due leases are ordered by: the deadline, and then the number
abbrev pub rank : Lease → ℕ × ℕ
rank lease = (lease.deadline, lease.number)

-- the order of ranks
abbrev pub rank_cmp : ℕ × ℕ → ℕ × ℕ → Ordering
rank_cmp a b = ordering_then (nat_cmp a.0 b.0) (nat_cmp a.1 b.1)

-- the due leases by rank
abbrev pub due_by_rank : LeaseTable → FinMap rank_cmp Lease
due_by_rank table = from_entries (map (λ (lease : Lease). (rank lease, lease)) (filter (is_due table.now) table.live))

-- the numbers of the due leases, in order of their ranks
abbrev pub due_leases : LeaseTable → List ℕ
due_leases table = map (λ (r : ℕ × ℕ). r.1) (keys (due_by_rank table))
