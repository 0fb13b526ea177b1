-- What a view is given, as plain data.
use Rattle.std.specs.Prelude.{◌≡◌, ℕ, List, length, map, All, Some, None}
use Rattle.std.specs.List.{sum_by}
use Rattle.store_api.specs.Followed.{part_of}
use Rattle.store_api.specs.History.{entry_of}
use Rattle.store_api.specs.declared.change.Delivery.TheVariants as given
use Rattle.store_api.specs.declared.change.Delivery as store
use Rattle.record_check.specs.declared.limit.Limit.{Limit}
use Rattle.relist_merge.specs.Deliveries.{Delivery, Edit, Edits, Listing, Batch, Lost, edits_of}
use Rattle.relist_merge.specs.Readings.{reading_in}
use Rattle.relist_merge.specs.declared.delivery.ReadPair.{ReadPair}
use Rattle.relist_merge.specs.declared.delivery.ReadChange.{ReadChange}
use Rattle.relist_merge.specs.declared.delivery.ReadChange.TheVariants.{Put, Delete}
use Rattle.relist_merge.specs.declared.delivery.ReadRevision.{ReadRevision}
use Rattle.relist_merge.specs.declared.delivery.ReadDelivery.{ReadDelivery}
use Rattle.relist_merge.specs.declared.delivery.ReadDelivery.TheVariants as read

abbrev pub pair_of : ReadPair → List ℕ × List ℕ
pair_of p = (p.key, p.value)

abbrev pub edit_in : ReadChange → Edit
edit_in (Put p) = (p.key, Some p.value)
edit_in (Delete key) = (key, None)

abbrev pub edits_in : ReadRevision → Edits
edits_in r = record { number = r.number; edits = map edit_in r.changes }

-- a delivery that was read
abbrev pub delivery_of : ReadDelivery → Delivery
delivery_of (read.Listing l) = Listing l.at (map pair_of l.pairs)
delivery_of (read.Batch b) = Batch (map edits_in b.revisions) b.upto
delivery_of read.Lost = Lost

-- a delivery as a store gives it
abbrev pub delivery_from : store.Delivery → Delivery
delivery_from (given.Listing l) = Listing l.at (map entry_of l.pairs)
delivery_from (given.Batch b) = Batch (map edits_of (map part_of b.revisions)) b.upto
delivery_from given.Lost = Lost

-- the reading is what the pair says
abbrev pub IsReading : Limit → ReadPair → Type 0
IsReading limit p = p.reading ≡ reading_in limit p.key p.value

abbrev pub IsChangeRead : Limit → ReadChange → Type 0
IsChangeRead limit (Put p) = IsReading limit p
IsChangeRead limit (Delete key) = Unit {0}

abbrev pub AreChangesRead : Limit → ReadRevision → Type 0
AreChangesRead limit r = All (IsChangeRead limit) r.changes

-- each reading is what its pair says
abbrev pub IsRead : Limit → ReadDelivery → Type 0
IsRead limit (read.Listing l) = All (IsReading limit) l.pairs
IsRead limit (read.Batch b) = All (AreChangesRead limit) b.revisions
IsRead limit read.Lost = Unit {0}

-- for how many rows more the delivery needs memory
abbrev pub rows_in : ReadDelivery → ℕ
rows_in (read.Listing l) = length l.pairs
rows_in (read.Batch b) = sum_by (λ (r : ReadRevision). length r.changes) b.revisions
rows_in read.Lost = 0
