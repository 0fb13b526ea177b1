-- The contents of a store, and the effect of each call on them.
-- Source: etcd's API, KV service (Range, Txn, Compact), Watch service and Lease service.
use Rattle.std.specs.Prelude.{◌≡◌, ℕ, ◌+◌, ◌-◌, min, max, List, [], ◌∷◌, map, if◌then◌else◌, Option, None, Some}
use Rattle.store_api.specs.Attached.{all_lapsed}
use Rattle.store_api.specs.Followed.{part_of, parts}
use Rattle.store_api.specs.History.{History, revision, entry_of, in_ranges, listing_at, committed}
use Rattle.store_api.specs.Leases.{LeaseTable, is_live_lease, no_leases, granted, renewed, advanced, due_leases, expired}
use Rattle.store_api.specs.declared.change.Batch.{Batch}
use Rattle.store_api.specs.declared.change.Listing.{Listing}
use Rattle.store_api.specs.declared.change.Op.{Op}
use Rattle.store_api.specs.declared.change.Op.TheVariants as op
use Rattle.store_api.specs.declared.change.Range.{Range}

-- what a store holds; history up to the compacted revision can no longer be watched
pub record Contents : Type 0 where
  pub history : History
  pub compacted : ℕ
  pub leases : LeaseTable

-- no revisions, nothing compacted, the clock at 0 and no lease
abbrev pub empty_contents : Contents
empty_contents = record { history = []; compacted = 0; leases = no_leases }

-- the lease that an operation names and that is not live
abbrev pub dead_name : LeaseTable → Op → Option ℕ
dead_name leases (op.Put key value None) = None
dead_name leases (op.Put key value (Some lease)) = if is_live_lease leases.live lease then None else Some lease
dead_name leases (op.Delete key) = None

abbrev pub first_some : Option ℕ → Option ℕ → Option ℕ
first_some None later = later
first_some (Some n) later = Some n

-- the first lease that the operations name and that is not live
abbrev pub dead_lease : LeaseTable → List Op → Option ℕ
dead_lease leases [] = None
dead_lease leases (o ∷ ops) = first_some (dead_name leases o) (dead_lease leases ops)

-- a listing of the ranges at the store's revision
pub record IsListing (ranges : List Range) (contents : Contents) (listing : Listing) : Type 0 where
  pub at : listing.at ≡ revision contents.history
  pub pairs : map entry_of listing.pairs ≡ listing_at ranges contents.history (revision contents.history)

-- how far a pull of at most so many revisions goes from this one on: up to the store's revision,
-- and never back
abbrev pub pulled_upto : ℕ → ℕ → History → ℕ
pulled_upto from most history = max (from - 1) (min (from - 1 + most) (revision history))

-- a batch of at most so many revisions from this one on: every revision in it that changes a key of
-- the ranges, whole as far as these go
pub record IsBatch (ranges : List Range) (from most : ℕ) (contents : Contents) (batch : Batch) : Type 0 where
  pub upto : batch.upto ≡ pulled_upto from most contents.history
  pub revisions : map part_of batch.revisions ≡ parts (in_ranges ranges) contents.history (from - 1) batch.upto

-- no effect
abbrev pub unchanged : Contents → Contents
unchanged contents = contents

-- the effect of a transaction
abbrev pub after_commit : List Op → Contents → Contents
after_commit ops contents = record contents { history = committed contents.history ops }

-- the effect of a lease granted for so many seconds
abbrev pub after_grant : ℕ → Contents → Contents
after_grant seconds contents = record contents { leases = granted seconds contents.leases }

-- the effect of a lease kept alive: its whole time to live begins again now
abbrev pub after_keep_alive : ℕ → Contents → Contents
after_keep_alive lease contents = record contents { leases = renewed lease contents.leases }

-- the effect of the clock going on by so many seconds: each lease that is due then lapses, in order
-- of deadline and then number, and is live no more
abbrev pub after_tick : ℕ → Contents → Contents
after_tick seconds contents = record contents {
  history = all_lapsed contents.history (due_leases (advanced seconds contents.leases));
  leases = expired (advanced seconds contents.leases);
}

-- the effect of a compaction up to a revision: at most the store's, and never back
abbrev pub after_compact : ℕ → Contents → Contents
after_compact upto contents = record contents { compacted = max contents.compacted (min upto (revision contents.history)) }
