-- The view as plain data, and what each of its calls makes of it.
-- Source: Cilium's ClusterMesh documentation (after a reconnection earlier entries stay until synced).
use Rattle.std.specs.Prelude.{◌≡◌, ◌≤◌, ℕ, List, [], ◌∷◌, map, ◌&&◌, Bool, true, false, if◌then◌else◌, Option, None, Some}
use Rattle.std.specs.List.{IsDistinct}
use Rattle.std.specs.Map.{keys_of}
use Rattle.mesh_base.specs.Order.{same_bytes}
use Rattle.store_api.specs.Followed.{Followed, in_at, parts}
use Rattle.store_api.specs.History.{History, Pairs, revision}
use Rattle.store_api.specs.Spans.{Record, seen, cursor_of}
use Rattle.relist_merge.specs.Deliveries.{Edit, Edits, Delivery, Listing, Batch, Lost, delivered, edits_of, listed}
use Rattle.relist_merge.specs.Records.{IsRecord, phase_of}
use Rattle.relist_merge.specs.declared.phase.Phase.{Phase}
use Rattle.relist_merge.specs.declared.phase.Phase.TheVariants.{Waiting, Held, CaughtUp}

-- the value of a key, and whether it was listed or put since the last list began
pub record Entry : Type 0 where
  pub value : List ℕ
  pub fresh : Bool

abbrev pub Entries : Type 0
Entries = List ℕ → Option Entry

pub record View : Type 0 where
  pub entries : Entries
  pub cursor : ℕ
  pub phase : Phase

abbrev pub value_of : Option Entry → Option (List ℕ)
value_of None = None
value_of (Some e) = Some e.value

abbrev pub fresh_of : Option Entry → Option (List ℕ)
fresh_of None = None
fresh_of (Some e) = if e.fresh then Some e.value else None

-- the values of all entries, and of the fresh ones
abbrev pub values : Entries → Pairs
values entries k = value_of (entries k)

abbrev pub fresh_part : Entries → Pairs
fresh_part entries k = fresh_of (entries k)

abbrev pub stale_of : Option Entry → Option Entry
stale_of None = None
stale_of (Some e) = Some (record e { fresh = false })

abbrev pub kept_of : Option Entry → Option Entry
kept_of None = None
kept_of (Some e) = if e.fresh then Some e else None

abbrev pub over_of : Option Entry → Option (List ℕ) → Option Entry
over_of old None = old
over_of old (Some value) = Some (record { value = value; fresh = true })

-- what an edit makes of the entry of k
abbrev pub edited : Edit → List ℕ → Option Entry → Option Entry
edited e k old = if same_bytes e.0 k then over_of None e.1 else old

abbrev pub edited_all : List Edit → List ℕ → Option Entry → Option Entry
edited_all [] k old = old
edited_all (e ∷ edits) k old = edited_all edits k (edited e k old)

abbrev pub is_held : Phase → Bool
is_held Held = true
is_held _ = false

abbrev pub is_caught_up : Phase → Bool
is_caught_up CaughtUp = true
is_caught_up _ = false

-- begin_list: every entry becomes stale
abbrev pub begun : View → View
begun v = record v { entries = λ k. stale_of (v.entries k); phase = Waiting }

-- a pair, as it is put
abbrev pub put_of : List ℕ × List ℕ → Edit
put_of p = (p.0, Some p.1)

-- apply_listing: each listed pair is put
abbrev pub with_listing : ℕ → List (List ℕ × List ℕ) → View → View
with_listing at pairs v = record { entries = λ k. edited_all (map put_of pairs) k (v.entries k); cursor = at; phase = Held }

-- apply_revision
abbrev pub with_revision : ℕ → List Edit → View → View
with_revision number edits v = record v { entries = λ k. edited_all edits k (v.entries k); cursor = number }

-- move_cursor
abbrev pub with_cursor : ℕ → View → View
with_cursor upto v = record v { cursor = upto }

-- the answer of finish_sync
abbrev pub finishes : Followed → View → Bool
finishes f v = is_held v.phase && f.synced (fresh_part v.entries)

-- finish_sync
abbrev pub finished : Followed → View → View
finished f v = if finishes f v then record v { entries = λ k. kept_of (v.entries k); phase = CaughtUp } else v

-- lose
abbrev pub lost : View → View
lost v = record v { phase = Waiting }

-- the revisions of a batch, with finish_sync after each
abbrev pub with_parts : Followed → List Edits → View → View
with_parts f [] v = v
with_parts f (p ∷ revisions) v = with_parts f revisions (finished f (with_revision p.number p.edits v))

-- a whole delivery
abbrev pub view_after : Followed → Delivery → View → View
view_after f (Listing at pairs) v = finished f (with_listing at pairs (begun v))
view_after f (Batch revisions upto) v = with_cursor upto (with_parts f revisions v)
view_after f Lost v = lost v

abbrev pub view_after_all : Followed → List Delivery → View → View
view_after_all f [] v = v
view_after_all f (d ∷ more) v = view_after_all f more (view_after f d v)

abbrev pub new_view : View
new_view = record { entries = λ _. None; cursor = 0; phase = Waiting }

-- the list has exactly these pairs, each key once
pub record IsListOf (list : List (List ℕ × List ℕ)) (pairs : Pairs) : Type 0 where
  pub distinct : IsDistinct same_bytes (keys_of list)
  pub values : (k : List ℕ) → listed list k ≡ pairs k

-- the delivery is the history's, for a reader with this record
abbrev pub Reads : Followed → History → Record → Delivery → Type 0
Reads f history r (Listing at pairs) = (at ≤ revision history) × IsListOf pairs (in_at f history at)
Reads f history r (Batch revisions upto) = (r.is_open ≡ true) × (cursor_of r.spans ≤ upto) × (upto ≤ revision history) × (revisions ≡ map edits_of (parts f.inside history (cursor_of r.spans) upto))
Reads f history r Lost = Unit {0}

abbrev pub ReadsAll : Followed → History → Record → List Delivery → Type 0
ReadsAll f history r [] = Unit {0}
ReadsAll f history r (d ∷ more) = Reads f history r d × ReadsAll f history (delivered d r) more

-- the view is what the reader with this record has sighted of the history:
-- being unlisted counts only in a span that was synced at some revision
pub record IsSighted (f : Followed) (history : History) (r : Record) (v : View) : Type 0 where
  pub entries : (k : List ℕ) → values v.entries k ≡ seen f history r.spans k
  pub phase : v.phase ≡ phase_of f history r
  pub cursor : v.cursor ≡ cursor_of r.spans
  pub fresh : r.is_open ≡ true → (k : List ℕ) → fresh_part v.entries k ≡ in_at f history (cursor_of r.spans) k

-- the view follows the history along the spans of this record, and is what was sighted there
pub record Follows (f : Followed) (history : History) (r : Record) (v : View) : Type 0 where
  pub formed : IsRecord history r
  pub sighted : IsSighted f history r v
