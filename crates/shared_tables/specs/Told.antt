-- What the tables were told, and what a change of it needs.
use Rattle.std.specs.Prelude.{◌≡◌, ◌⊎◌, ℕ, zero, suc, List, [], ◌∷◌, map, IsTrue, Option, None, Some, is_some, option_map, if◌then◌else◌}
use Rattle.std.specs.Option.{ForSome}
use Rattle.std.specs.Ordering.{nat_cmp}
use Rattle.std.specs.Cmp.Lexicographic.{slice_cmp}
use Rattle.std.specs.FinMap.{FinMap, empty, entries, from_entries, get, insert, remove}
use Rattle.key_paths.specs.Mapping.{cache_key_of}
use Rattle.record_check.specs.declared.limit.Limit.{Limit}
use Rattle.record_check.specs.Configs.{checked_config}
use Rattle.record_check.specs.Reading.{reading_of}
use Rattle.shared_tables.specs.declared.change.Row.{Row}
use Rattle.shared_tables.specs.declared.change.RecordChange.{RecordChange}
use Rattle.shared_tables.specs.declared.source.Source.{Source}
use Rattle.shared_tables.specs.declared.tables.Tables.{Tables}
use Rattle.shared_tables.specs.RecordSets.{Reading, ConfigSaid, RecordSet, is_record_key}

-- readings of pairs by the bytes of their keys
abbrev pub Readings : Type 0
Readings = FinMap (slice_cmp nat_cmp) Reading

-- what the tables were told of a source
pub record SourceTold : Type 0 where
  pub name : List ℕ
  pub config : ConfigSaid
  pub rows : Readings

-- what the tables were told: the local cluster's name and number, the limit of the mesh, and the
-- sources in their order
pub record Told : Type 0 where
  pub local : List ℕ
  pub number : ℕ
  pub limit : Limit
  pub sources : List SourceTold

abbrev pub readings : List (List ℕ × Reading) → Readings
readings pairs = from_entries pairs

abbrev pub source_told : Source → SourceTold
source_told s = record { name = s.name; config = s.config; rows = readings s.rows.entries }

-- what the tables were told
abbrev pub told : Tables → Told
told t = record { local = t.local; number = t.number; limit = t.limit; sources = map source_told t.sources.items }

-- how many more rows each source's tables take without memory
abbrev pub rooms : Tables → List ℕ
rooms t = map (λ (s : Source). s.room) t.sources.items

abbrev pub set_told : SourceTold → RecordSet
set_told s = record { name = s.name; config = s.config; pairs = entries s.rows }

-- the record sets of all sources
abbrev pub sets : Told → List RecordSet
sets t = map set_told t.sources

abbrev pub nothing_told : List ℕ → SourceTold
nothing_told name = record { name = name; config = None; rows = empty }

-- the element at the place is changed
abbrev pub changed_at : {X : Type 0} → (X → X) → ℕ → List X → List X
changed_at change place [] = []
changed_at change zero (x ∷ xs) = change x ∷ xs
changed_at change (suc place) (x ∷ xs) = x ∷ changed_at change place xs

abbrev pub rows_after : Option Row → Option Row → Readings → Readings
rows_after old (Some new) rows = insert rows new.key new.reading
rows_after (Some old) None rows = remove rows old.key
rows_after None None rows = rows

-- one key's row of a source is changed
abbrev pub with_change : RecordChange → Told → Told
with_change change t = record t {
  sources = changed_at (λ (s : SourceTold). record s { rows = rows_after change.old change.new s.rows }) change.source t.sources;
}

-- a source's config is changed
abbrev pub with_config : ℕ → ConfigSaid → Told → Told
with_config place config t = record t {
  sources = changed_at (λ (s : SourceTold). record s { config = config }) place t.sources;
}

-- nothing is told of a source any more
abbrev pub with_nothing : ℕ → Told → Told
with_nothing place t = record t {
  sources = changed_at (λ (s : SourceTold). nothing_told s.name) place t.sources;
}

-- how many rows a change puts
abbrev pub rows_needed : RecordChange → ℕ
rows_needed change = if is_some change.new then 1 else 0

-- the reading is that of a pair of this key, or of this key in the cache of the cluster
abbrev pub SaysOf : List ℕ → List ℕ → List ℕ → Reading → Type 0
SaysOf name key value reading = (reading ≡ reading_of key value)
    ⊎ ((cached : List ℕ) × (cache_key_of name key ≡ Some cached) × (reading ≡ reading_of cached value))

-- a row of the cluster with this name: the key is that of a record in its store, and the reading is
-- what a pair of this key, or of this key in the cluster's cache, says
pub record IsRow (name : List ℕ) (row : Row) : Type 0 where
  pub key : IsTrue (is_record_key name row.key)
  pub value : List ℕ
  pub reading : SaysOf name row.key value row.reading

-- the change is one of a key of the source: before it the source's tables hold the old row, or
-- none, and the new row is one of the source
pub record IsChange (s : SourceTold) (change : RecordChange) : Type 0 where
  pub key : List ℕ
  pub old : ForSome change.old (λ (row : Row). row.key ≡ key)
  pub new : ForSome change.new (λ (row : Row). (row.key ≡ key) × IsRow s.name row)
  pub held : get s.rows key ≡ option_map (λ (row : Row). row.reading) change.old

-- a config that is there is what some value says
abbrev pub IsConfig : Limit → ConfigSaid → Type 0
IsConfig limit config = ForSome config (λ said. (value : List ℕ) × (said ≡ checked_config limit value))
