-- What a pair in a cluster's ranges says.
use Rattle.std.specs.Prelude.{◌≡◌, ℕ, List, codes, nat_eq, if◌then◌else◌, Option, None, Some, Result, Ok, Err}
use Rattle.std.specs.List.{starts_with}
use Rattle.mesh_text.specs.Numbers.{number_of}
use Rattle.record_values.specs.declared.records.ClusterConfig.{ClusterConfig}
use Rattle.record_values.specs.declared.records.Record.{Record}
use Rattle.key_paths.specs.declared.fault.KeyFault.{KeyFault}
use Rattle.key_paths.specs.declared.key.Key.{Key}
use Rattle.key_paths.specs.declared.key.Key.TheVariants as key
use Rattle.key_paths.specs.Reading.{key_of}
use Rattle.record_check.specs.Configs.{checked_config}
use Rattle.record_check.specs.Reading.{reading_of}
use Rattle.record_check.specs.declared.fault.Fault.{Fault}
use Rattle.record_check.specs.declared.limit.Limit.{Limit}
use Rattle.relist_merge.specs.declared.reading.Reading.{Reading}
use Rattle.relist_merge.specs.declared.reading.Reading.TheVariants as reading

abbrev pub of_record : Result (Key × Record) Fault → Reading
of_record (Ok (key, value)) = reading.Pair key value
of_record (Err fault) = reading.Bad fault

-- the reading is that of a record's pair
abbrev pub SaysRecord : Reading → Type 0
SaysRecord r = (said : Result (Key × Record) Fault) × (r ≡ of_record said)

-- a pair that is no config, mark or cut: below the marks it says nothing, and else it is a record's
abbrev pub below_marks : List ℕ → List ℕ → Reading
below_marks key value = if starts_with nat_eq key (codes "cilium/synced/") then reading.Other else of_record (reading_of key value)

abbrev pub reading_under : Result Key KeyFault → Limit → List ℕ → List ℕ → Reading
reading_under (Ok (key.Config cluster)) limit key value = reading.Config (checked_config limit value)
reading_under (Ok (key.Synced cluster hop kind)) limit key value = reading.Mark hop kind
reading_under (Ok (key.Cut cluster)) limit key value = reading.Cut (number_of value)
reading_under (Ok (key.Node hop cluster node)) limit key value = below_marks key value
reading_under (Ok (key.Service hop cluster namespace name)) limit key value = below_marks key value
reading_under (Ok (key.Identity cached number)) limit key value = below_marks key value
reading_under (Ok (key.Address cached ip)) limit key value = below_marks key value
reading_under (Err fault) limit key value = below_marks key value

-- what the pair says: a config, a mark or a cut by its key, else a record
unfoldable pub reading_in : Limit → List ℕ → List ℕ → Reading
reading_in limit key value = reading_under (key_of key) limit key value

-- the config, where that is what the pair says and it is valid
abbrev pub config_said : Reading → Option ClusterConfig
config_said (reading.Config (Ok config)) = Some config
config_said _ = None

-- the revision of a cut, where that is what the pair says
abbrev pub cut_said : Reading → Option ℕ
cut_said (reading.Cut revision) = revision
cut_said _ = None
