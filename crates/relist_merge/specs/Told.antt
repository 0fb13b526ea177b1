-- What is told of a view's pairs to those who report a source's records.
use Rattle.std.specs.Prelude.{ℕ, List, [], ◌∷◌, if◌then◌else◌, Option, None, Some, option_and_then, Result}
use Rattle.record_values.specs.declared.records.Record.{Record}
use Rattle.mesh_text.specs.Numbers.{number_of}
use Rattle.key_paths.specs.Mapping.{state_key_of}
use Rattle.key_paths.specs.Paths.{cut_key, record_ranges}
use Rattle.key_paths.specs.declared.hop.Hop.{Hop}
use Rattle.key_paths.specs.declared.hop.Hop.TheVariants.{State, Cache}
use Rattle.key_paths.specs.declared.key.Key.{Key}
use Rattle.record_check.specs.Reading.{reading_of}
use Rattle.record_check.specs.declared.fault.Fault.{Fault}
use Rattle.store_api.specs.History.{Pairs, in_ranges}
use Rattle.relist_merge.specs.declared.telling.ReadRecord.{ReadRecord}

-- the key that a record of the cluster has in the exporter's store, for its key at this hop; none
-- where the key is of no record of the cluster
abbrev pub record_key : Hop → List ℕ → List ℕ → Option (List ℕ)
record_key State cluster key = if in_ranges (record_ranges cluster State) key then Some key else None
record_key Cache cluster key = state_key_of cluster key

abbrev pub told_under : Option (List ℕ) → Result (Key × Record) Fault → List ReadRecord
told_under None reading = []
told_under (Some key) reading = record { key = key; reading = reading } ∷ []

-- what is told of a pair: its record's key in the exporter's store, and what the pair says
abbrev pub told_of : Hop → List ℕ → List ℕ × List ℕ → List ReadRecord
told_of hop cluster pair = told_under (record_key hop cluster pair.0) (reading_of pair.0 pair.1)

-- the revision that the cluster's cut says, where it says one
abbrev pub cut_in : List ℕ → Pairs → Option ℕ
cut_in cluster pairs = option_and_then number_of (pairs (cut_key cluster))
