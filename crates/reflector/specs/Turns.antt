-- What a turn of a reader answers, what it hands on, and how the reader's record goes on by it.
-- Source: etcd's API, KV service (Range tells the revision that it lists), Watch service (a watch
-- delivers every change from its start on, in order; one that starts in compacted history is refused).
use Rattle.std.specs.Prelude.{◌≡◌, ℕ, ◌+◌, ◌≤◌, ◌<◌, min, List, map, true, false, Option, None, Some}
use Rattle.store_api.specs.Contents.{Contents, IsListing}
use Rattle.store_api.specs.Followed.{part_of, parts}
use Rattle.store_api.specs.Given.{gone_on_if}
use Rattle.store_api.specs.History.{History, revision, in_ranges}
use Rattle.store_api.specs.Spans.{Record}
use Rattle.store_api.specs.declared.change.Batch.{Batch}
use Rattle.store_api.specs.declared.change.Delivery.{Delivery}
use Rattle.store_api.specs.declared.change.Delivery.TheVariants as delivery
use Rattle.store_api.specs.declared.change.Range.{Range}
use Rattle.reflector.specs.Reader.{Reader}
use Rattle.reflector.specs.declared.turns.Turn.{Turn}
use Rattle.reflector.specs.declared.turns.Turn.TheVariants as turn

-- what the next revisions behind the cursor changed in the ranges: at most so many revisions, and
-- the store's at the latest
pub record IsNext (ranges : List Range) (cursor most : ℕ) (history : History) (batch : Batch) : Type 0 where
  pub upto : batch.upto ≡ min (cursor + most) (revision history)
  pub revisions : map part_of batch.revisions ≡ parts (in_ranges ranges) history cursor batch.upto

-- what each answer says of the contents that the turn found: a waiting reader lists; another is
-- refused where the revision behind its cursor is compacted, else has nothing new where its cursor
-- is the store's revision, and else gets what is next; any call may be lost
abbrev pub IsAnswer : ℕ → Contents → Reader → Turn → Type 0
IsAnswer most contents reader (turn.Listed listing) = (reader.is_waiting ≡ true) × IsListing reader.ranges contents listing
IsAnswer most contents reader (turn.Compacted compacted) = (reader.is_waiting ≡ false) × (reader.cursor + 1 ≤ compacted) × (compacted ≡ contents.compacted)
IsAnswer most contents reader turn.NothingNew = (reader.is_waiting ≡ false) × (contents.compacted ≤ reader.cursor) × (reader.cursor ≡ revision contents.history)
IsAnswer most contents reader (turn.Pulled batch) = (reader.is_waiting ≡ false) × (contents.compacted ≤ reader.cursor) × (reader.cursor < revision contents.history) × IsNext reader.ranges reader.cursor most contents.history batch
IsAnswer most contents reader turn.Lost = Unit {0}

-- how the answer leaves the reader: where its call was refused or lost, it waits with its last cursor
abbrev pub after_turn : Turn → Reader → Reader
after_turn (turn.Listed listing) reader = record reader { cursor = listing.at; is_waiting = false }
after_turn (turn.Pulled batch) reader = record reader { cursor = batch.upto }
after_turn (turn.Compacted compacted) reader = record reader { is_waiting = true }
after_turn turn.Lost reader = record reader { is_waiting = true }
after_turn turn.NothingNew reader = reader

-- what the answer hands on
abbrev pub delivery_of : Turn → Option Delivery
delivery_of (turn.Listed listing) = Some (delivery.Listing listing)
delivery_of (turn.Pulled batch) = Some (delivery.Batch batch)
delivery_of (turn.Compacted compacted) = Some delivery.Lost
delivery_of turn.Lost = Some delivery.Lost
delivery_of turn.NothingNew = None

-- what a turn makes of a record
abbrev pub followed : Turn → Record → Record
followed t r = gone_on_if (delivery_of t) r
