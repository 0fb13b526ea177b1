-- Whether a cluster's config fits the mesh.
-- Source: Cilium's ClusterMesh documentation (a cluster's number is from 1 to
-- `maxConnectedClusters`, which all clusters of a mesh have alike).
use Rattle.std.specs.Prelude.{ℕ, ◌==◌, not, List, [], ◌∷◌, Option, Result, Ok, Err}
use Rattle.std.specs.Result.{result_ok}
use Rattle.record_values.specs.declared.fault.ReadFault.{ReadFault}
use Rattle.record_values.specs.Values.{Config}
use Rattle.record_reading.specs.Config.{config_of}
use Rattle.record_reading.specs.Judgement.{judged}
use Rattle.record_check.specs.declared.limit.Limit.{Limit}
use Rattle.record_check.specs.declared.fault.Fault.{Fault}
use Rattle.record_check.specs.declared.fault.Fault.TheVariants as fault
use Rattle.record_check.specs.Limits.{last_cluster, is_cluster_number}
use Rattle.record_check.specs.Faults.{Row, fault_if, first_fault, unless, size_row, read_row}

-- the rows that a config that was read decides: its number, then its own limit of clusters
abbrev pub limit_rows : Limit → Result Config ReadFault → List Row
limit_rows limit (Ok config) =
    fault_if (not (is_cluster_number limit config.id)) fault.ClusterId
    ∷ fault_if (not (config.max_connected == last_cluster limit)) (fault.Limit config.max_connected)
    ∷ []
limit_rows limit (Err why) = []

-- the table of a config's faults
abbrev pub config_rows : Limit → List ℕ → List Row
config_rows limit value =
    size_row value ∷ read_row (judged config_of value) ∷ limit_rows limit (judged config_of value)

-- the first fault of a config, if it has one
unfoldable pub config_fault : Limit → List ℕ → Option Fault
config_fault limit value = first_fault (config_rows limit value)

abbrev pub config_said : Result Config ReadFault → Result Config Fault
config_said (Ok config) = Ok config
config_said (Err why) = Err (fault.Read why)

-- the config that a value says, or its first fault
unfoldable pub checked_config : Limit → List ℕ → Result Config Fault
checked_config limit value =
    unless (config_fault limit value) (config_said (judged config_of value))

-- the config that a value says, where it is valid
abbrev pub valid_config : Limit → List ℕ → Option Config
valid_config limit value = result_ok (checked_config limit value)
