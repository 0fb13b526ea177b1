-- What a reader is handed, and what it makes of the reader's record.
-- Source: etcd's API, KV service (Range) and Watch service (a watch delivers every change once, in order).
use Rattle.std.specs.Prelude.{ℕ, List, [], ◌∷◌, map, if◌then◌else◌, Option, None, Some}
use Rattle.mesh_base.specs.Order.{same_bytes}
use Rattle.store_api.specs.Advance.{listed_at, moved_to, closed}
use Rattle.store_api.specs.Followed.{Part}
use Rattle.store_api.specs.History.{Pairs}
use Rattle.store_api.specs.Spans.{Record}
use Rattle.store_api.specs.declared.change.Change.{Change}
use Rattle.store_api.specs.declared.change.Change.TheVariants as change

-- a key with its value, or with none where it is deleted
abbrev pub Edit : Type 0
Edit = List ℕ × Option (List ℕ)

abbrev pub edit_of : Change → Edit
edit_of (change.Put key value lease) = (key, Some value)
edit_of (change.Delete key) = (key, None)

-- what a revision changed, as a reader takes it
pub record Edits : Type 0 where
  pub number : ℕ
  pub edits : List Edit

abbrev pub edits_of : Part → Edits
edits_of part = record { number = part.number; edits = map edit_of part.changes }

-- all pairs at a revision; or all changes up to a revision, by revision; or the connection was lost
pub data Delivery : Type 0 where
  Listing : ℕ → List (List ℕ × List ℕ) → Delivery
  Batch : List Edits → ℕ → Delivery
  Lost : Delivery

-- the value listed for the key
abbrev pub listed : List (List ℕ × List ℕ) → Pairs
listed [] k = None
listed (p ∷ pairs) k = if same_bytes p.0 k then Some p.1 else listed pairs k

-- the record after a delivery
abbrev pub delivered : Delivery → Record → Record
delivered (Listing at pairs) r = listed_at at r
delivered (Batch revisions upto) r = moved_to upto r
delivered Lost r = closed r

abbrev pub delivered_all : List Delivery → Record → Record
delivered_all [] r = r
delivered_all (d ∷ more) r = delivered_all more (delivered d r)
