-- What reading, judging and checking have to do with each other.
use Rattle.std.specs.Prelude.{◌≡◌, ℕ, ◌<◌, List, IsTrue}
use Rattle.std.specs.Result.{result_map_both, result_err}
use Rattle.store_api.specs.History.{in_ranges}
use Rattle.key_paths.specs.declared.hop.Hop.{Hop}
use Rattle.key_paths.specs.declared.key.Key.{Key}
use Rattle.key_paths.specs.Paths.{record_ranges}
use Rattle.key_paths.specs.Reading.{key_of}
use Rattle.record_values.specs.declared.records.Record.TheVariants as found
use Rattle.record_values.specs.Values.{Address}
use Rattle.record_check.specs.declared.limit.Limit.{Limit}
use Rattle.record_check.specs.Limits.{first_own_identity}
use Rattle.record_check.specs.Faults.{first_fault}
use Rattle.record_check.specs.Configs.{config_fault, checked_config}
use Rattle.record_check.specs.Reading.{record_key_of, reading_rows, reading_of}
use Rattle.record_check.specs.Judging.{judgement, pair_fault, checked, judged_by}

-- checking a pair is reading it and judging what was read
abbrev pub ChecksByJudging : Type 0
ChecksByJudging = (cluster : List ℕ) (id : ℕ) (limit : Limit) (key value : List ℕ)
    → checked cluster id limit key value ≡ judged_by cluster id limit (reading_of key value)

-- an address with a reserved identity has the same fault, or none, for every cluster
abbrev pub ReservedFitEveryCluster : Type 0
ReservedFitEveryCluster = (address : Address) → address.id < first_own_identity
    → (cluster other : List ℕ) (id number : ℕ) (limit : Limit) (key : Key)
    → judgement cluster id limit key (found.Address address) ≡ judgement other number limit key (found.Address address)

-- in the ranges of a cluster's records the key of a record is the key as such, with the same faults
abbrev pub ReadsKeysInRanges : Type 0
ReadsKeysInRanges = (cluster : List ℕ) (hop : Hop) (bytes : List ℕ)
    → IsTrue (in_ranges (record_ranges cluster hop) bytes)
    → result_map_both (λ pair. pair.0) (λ why. why) (record_key_of bytes) ≡ key_of bytes

-- a reading has the first fault of its rows, and none exactly where none of the rows holds
abbrev pub ReadsFirstFault : Type 0
ReadsFirstFault = (key value : List ℕ)
    → result_err (reading_of key value) ≡ first_fault (reading_rows key value)

-- the same of a pair and its whole table
abbrev pub ChecksFirstFault : Type 0
ChecksFirstFault = (cluster : List ℕ) (id : ℕ) (limit : Limit) (key value : List ℕ)
    → result_err (checked cluster id limit key value) ≡ pair_fault cluster id limit key value

-- the same of a config
abbrev pub ChecksConfigsFirstFault : Type 0
ChecksConfigsFirstFault = (limit : Limit) (value : List ℕ)
    → result_err (checked_config limit value) ≡ config_fault limit value
