-- What the tables of a report are told of each remote.
use Rattle.std.specs.Prelude.{◌≡◌, ℕ, zero, suc, List, [], ◌∷◌, map, Bool, true, None, Some}
use Rattle.std.specs.FinMap.{empty, get}
use Rattle.std.specs.List.{AllByRecursion, IsDistinct}
use Rattle.mesh_base.specs.Order.{same_bytes}
use Rattle.record_check.specs.declared.limit.Limit.TheVariants.{Small}
use Rattle.relist_merge.specs.Sight.{viewed}
use Rattle.relist_merge.specs.Records.{AreWithin}
use Rattle.relist_merge.specs.View.{values}
use Rattle.relist_merge.specs.declared.view.View.{View}
use Rattle.relist_merge.specs.declared.telling.ReadRecord.{ReadRecord}
use Rattle.shared_tables.specs.RecordSets.{Reading}
use Rattle.shared_tables.specs.Told.{IsRow, SourceTold, Told, changed_at, readings, set_told, told}
use Rattle.shared_tables.specs.declared.change.RecordChange.{RecordChange}
use Rattle.shared_tables.specs.declared.change.Row.{Row}
use Rattle.store_api.specs.History.{History, revision}
use Rattle.store_api.specs.Spans.{Record, Span, seen}
use Rattle.mesh_world.specs.Sources.{sighted_set, state_of}
use Rattle.mesh_remote.specs.Shown.{IsViewOf}
use Rattle.mesh_remote.specs.declared.remote.Remote.{Remote}
use Rattle.scenario_replay.specs.declared.replay.Replay.{Replay}
use Rattle.scenario_replay.specs.declared.sighting.Sighting.{Sighting}

-- ---- the records of a source
-- a record that was read, as a row of the tables
abbrev pub row_of : ReadRecord → Row
row_of r = record { key = r.key; reading = r.reading }

abbrev pub entry_of : ReadRecord → List ℕ × Reading
entry_of r = (r.key, r.reading)

-- the tables are told the record, and had none of its key
abbrev pub first_told : ℕ → ReadRecord → RecordChange
first_told source r = record { source = source; old = None; new = Some (row_of r) }

-- the record is one of the source, of whose key nothing was told
pub record IsFirst (s : SourceTold) (r : ReadRecord) : Type 0 where
  pub absent : get s.rows r.key ≡ None
  pub row : IsRow s.name (row_of r)

-- the records are the source's, each key once, and nothing was told of any
pub record AreFirst (s : SourceTold) (records : List ReadRecord) : Type 0 where
  pub none : s.rows ≡ empty
  pub rows : AllByRecursion (λ (r : ReadRecord). IsRow s.name (row_of r)) records
  pub apart : IsDistinct same_bytes (map (λ (r : ReadRecord). r.key) records)

-- the source has the rows of these records
abbrev pub with_records : ℕ → List ReadRecord → Told → Told
with_records source records t = record t {
  sources = changed_at (λ (s : SourceTold). record s { rows = readings (map entry_of records) }) source t.sources;
}

-- ---- what the agent has sighted of a remote
-- the values of the view's entries are what was sighted of the cluster along these spans of its history
pub record Sights (name : List ℕ) (history : History) (spans : List Span) (v : View) : Type 0 where
  pub within : AreWithin (revision history) spans
  pub entries : (k : List ℕ) → values (viewed v).shown.entries k ≡ seen (state_of name) history spans k

-- the record set of the source is what was sighted, by every history and record of which the view shows that
abbrev pub IsToldOf : View → SourceTold → Type 0
IsToldOf v s = (name : List ℕ) (history : History) (reader : Record) → IsViewOf name v → Sights name history reader.spans v → set_told s ≡ sighted_set name history reader

-- the view is of the same source as another, and has its entries
pub record HasEntriesOf (old new : View) : Type 0 where
  pub source : (viewed new).source ≡ (viewed old).source
  pub entries : (viewed new).shown.entries ≡ (viewed old).shown.entries

-- the source at the place is told what was sighted of its cluster
pub record TellsSource (place : ℕ) (v : View) (old new : Told) : Type 0 where
  pub source : SourceTold
  pub named : source.name ≡ (viewed v).source.cluster
  pub is : IsToldOf v source
  pub told : new ≡ record old { sources = changed_at (λ (s : SourceTold). source) place old.sources }

-- ---- what is kept of that from report to report
-- the source is the view's, and where it is marked so, it is told all that was sighted
pub record IsSource (marked : Bool) (v : View) (s : SourceTold) : Type 0 where
  pub view : IsViewOf s.name v
  pub told : marked ≡ true → IsToldOf v s

abbrev pub AreSources : List Bool → List Remote → List SourceTold → Type 0
AreSources [] [] [] = Unit {0}
AreSources (t ∷ ts) (r ∷ remotes) (s ∷ sources) = IsSource t r.agent.view s × AreSources ts remotes sources
AreSources _ _ _ = ⊥

-- the first so many are marked
abbrev pub AreMarked : ℕ → List Bool → Type 0
AreMarked zero ts = Unit {0}
AreMarked (suc n) [] = ⊥
AreMarked (suc n) (t ∷ ts) = (t ≡ true) × AreMarked n ts

-- the tables are those of the remotes, where the local cluster has this number
pub record HasTables (number : ℕ) (remotes : List Remote) (sighting : Sighting) : Type 0 where
  pub number_is : (told sighting.tables).number ≡ number
  pub limit : (told sighting.tables).limit ≡ Small
  pub sources : AreSources sighting.told.items remotes (told sighting.tables).sources

abbrev pub IsTold : Replay → Type 0
IsTold replay = HasTables replay.number replay.remotes.items replay.sighting
