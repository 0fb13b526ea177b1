-- What is known of a source: its config and its pairs, as they were read.
-- Source: Cilium's ClusterMesh documentation (a cluster's config, and its nodes, services,
-- identities and addresses in its store).
use Rattle.std.specs.Prelude.{ℕ, List, map, filter, Bool, Option, option_map, Result}
use Rattle.std.specs.FinMap.{get, entries}
use Rattle.record_values.specs.Values.{Config}
use Rattle.record_values.specs.declared.records.Record.{Record}
use Rattle.key_paths.specs.declared.hop.Hop.TheVariants.{State}
use Rattle.key_paths.specs.declared.key.Key.{Key}
use Rattle.key_paths.specs.Paths.{config_key, record_ranges}
use Rattle.record_check.specs.declared.fault.Fault.{Fault}
use Rattle.record_check.specs.declared.limit.Limit.{Limit}
use Rattle.record_check.specs.Configs.{checked_config}
use Rattle.record_check.specs.Reading.{reading_of}
use Rattle.store_api.specs.History.{Pairing, in_ranges}

-- what a pair says: a record under its key, or the first fault of its bytes
abbrev pub Reading : Type 0
Reading = Result (Key × Record) Fault

-- what a source's config says, if it has one: a config, or its first fault
abbrev pub ConfigSaid : Type 0
ConfigSaid = Option (Result Config Fault)

-- a source's name, its config, and its pairs of the four kinds: the bytes of each key, once, with
-- what the pair says
pub record RecordSet : Type 0 where
  pub name : List ℕ
  pub config : ConfigSaid
  pub pairs : List (List ℕ × Reading)

-- the key is that of a record in the store of the cluster with this name
abbrev pub is_record_key : List ℕ → List ℕ → Bool
is_record_key name key = in_ranges (record_ranges name State) key

abbrev pub pair_read : List ℕ × List ℕ → List ℕ × Reading
pair_read (key, value) = (key, reading_of key value)

-- the record set of a source with this name, by the pairs of keys and values of its store
abbrev pub set_of : Limit → List ℕ → Pairing → RecordSet
set_of limit name pairs = record {
  name = name;
  config = option_map (checked_config limit) (get pairs (config_key name));
  pairs = map pair_read (filter (λ (pair : List ℕ × List ℕ). is_record_key name pair.0) (entries pairs));
}
