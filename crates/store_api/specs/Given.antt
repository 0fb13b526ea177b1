-- What a reader of a history is given of it, and how its record goes on by that.
-- Source: etcd's API, KV service (Range tells the revision that it lists) and Watch service (a watch
-- delivers every change from its start on, in order).
use Rattle.std.specs.Prelude.{◌≡◌, ◌≤◌, List, map, true, Option, None, Some}
use Rattle.store_api.specs.Advance.{listed_at, moved_to, closed}
use Rattle.store_api.specs.Followed.{part_of, parts}
use Rattle.store_api.specs.History.{History, entry_of, in_ranges, listing_at, revision}
use Rattle.store_api.specs.Spans.{Record, cursor_of}
use Rattle.store_api.specs.declared.change.Delivery.{Delivery}
use Rattle.store_api.specs.declared.change.Delivery.TheVariants.{Listing, Batch, Lost}
use Rattle.store_api.specs.declared.change.Range.{Range}

-- the delivery is exactly the history's, for a reader of these ranges with this record: all their
-- pairs at one revision, or all changes of them behind the open span and up to the batch's end
abbrev pub IsGiven : List Range → History → Record → Delivery → Type 0
IsGiven ranges history r (Listing l) = (l.at ≤ revision history) × (map entry_of l.pairs ≡ listing_at ranges history l.at)
IsGiven ranges history r (Batch b) = (r.is_open ≡ true) × (cursor_of r.spans ≤ b.upto) × (b.upto ≤ revision history) × (map part_of b.revisions ≡ parts (in_ranges ranges) history (cursor_of r.spans) b.upto)
IsGiven ranges history r Lost = Unit {0}

-- the record after it: a listing is a new span, a batch makes the open one longer
abbrev pub gone_on : Delivery → Record → Record
gone_on (Listing l) r = listed_at l.at r
gone_on (Batch b) r = moved_to b.upto r
gone_on Lost r = closed r

-- the same, where there may be nothing new
abbrev pub IsGivenIf : List Range → History → Record → Option Delivery → Type 0
IsGivenIf ranges history r None = Unit {0}
IsGivenIf ranges history r (Some d) = IsGiven ranges history r d

abbrev pub gone_on_if : Option Delivery → Record → Record
gone_on_if None r = r
gone_on_if (Some d) r = gone_on d r
