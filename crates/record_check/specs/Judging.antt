-- Whether what a pair says fits the cluster that it came from, and its key.
-- Source: Cilium's ClusterMesh documentation (each cluster has a name and a number of its own, and
-- its records say them) and its numeric identities; the order of the faults is our own.
use Rattle.std.specs.Prelude.{ℕ, List, [], ◌∷◌, ◌++◌, nat_eq, bytes_eq, Bool, Option, None, Some, option_map, Result, Ok, Err}
use Rattle.std.specs.Ordering.{is_eq}
use Rattle.std.specs.Result.{result_ok}
use Rattle.mesh_text.specs.declared.ip.Ip.{Ip}
use Rattle.mesh_text.specs.Laws.{ip_cmp}
use Rattle.key_paths.specs.declared.key.Key.{Key}
use Rattle.key_paths.specs.declared.key.Key.TheVariants as key
use Rattle.record_values.specs.declared.records.Record.{Record}
use Rattle.record_values.specs.declared.records.Record.TheVariants.{Node, Service, Identity, Address}
use Rattle.record_check.specs.declared.limit.Limit.{Limit}
use Rattle.record_check.specs.declared.fault.Fault.{Fault}
use Rattle.record_check.specs.declared.fault.Fault.TheVariants as fault
use Rattle.record_check.specs.Limits.{cluster_part, cluster_owning}
use Rattle.record_check.specs.Faults.{Row, fault_if, first_fault, unless, differ}
use Rattle.record_check.specs.Reading.{reading_rows, said}

-- what a key says of the name, the namespace, the identity and the address of its record
abbrev pub name_in_key : Key → Option (List ℕ)
name_in_key (key.Node hop cluster node) = Some node
name_in_key (key.Service hop cluster namespace name) = Some name
name_in_key _ = None

abbrev pub namespace_in_key : Key → Option (List ℕ)
namespace_in_key (key.Service hop cluster namespace name) = Some namespace
namespace_in_key _ = None

abbrev pub identity_in_key : Key → Option ℕ
identity_in_key (key.Identity cached number) = Some number
identity_in_key _ = None

abbrev pub ip_in_key : Key → Option Ip
ip_in_key (key.Address cached ip) = Some ip
ip_in_key _ = None

-- what a record says of its cluster, its name, its namespace and its address
abbrev pub cluster_in : Record → Option (List ℕ)
cluster_in (Node node) = Some node.cluster
cluster_in (Service service) = Some service.cluster
cluster_in (Identity identity) = None
cluster_in (Address address) = None

abbrev pub name_in : Record → Option (List ℕ)
name_in (Node node) = Some node.name
name_in (Service service) = Some service.name
name_in (Identity identity) = None
name_in (Address address) = None

abbrev pub namespace_in : Record → Option (List ℕ)
namespace_in (Node node) = None
namespace_in (Service service) = Some service.namespace
namespace_in (Identity identity) = None
namespace_in (Address address) = None

abbrev pub ip_in : Record → Option Ip
ip_in (Node node) = None
ip_in (Service service) = None
ip_in (Identity identity) = None
ip_in (Address address) = Some address.ip

-- the number of the cluster that the pair is of: a node and a service say it, an identity has it
-- in the number of its key, and an address in its identity, unless every cluster has that one
abbrev pub number_in : Limit → Key → Record → Option ℕ
number_in limit key (Node node) = Some node.cluster_id
number_in limit key (Service service) = Some service.cluster_id
number_in limit key (Identity identity) = option_map (cluster_part limit) (identity_in_key key)
number_in limit key (Address address) = cluster_owning limit address.id

-- the same address of the same family
abbrev pub same_ip : Ip → Ip → Bool
same_ip a b = is_eq (ip_cmp a b)

-- the rows that what was said decides, for a cluster with this name and this number, in their order
abbrev pub judging_rows : List ℕ → ℕ → Limit → Key → Record → List Row
judging_rows cluster id limit key found =
    fault_if (differ bytes_eq (cluster_in found) (Some cluster)) fault.Cluster
    ∷ fault_if (differ nat_eq (number_in limit key found) (Some id)) fault.ClusterId
    ∷ fault_if (differ bytes_eq (namespace_in found) (namespace_in_key key)) fault.Namespace
    ∷ fault_if (differ bytes_eq (name_in found) (name_in_key key)) fault.Name
    ∷ fault_if (differ same_ip (ip_in found) (ip_in_key key)) fault.AddressKey
    ∷ []

-- the first fault of what was said, for a cluster with this name and this number
unfoldable pub judgement : List ℕ → ℕ → Limit → Key → Record → Option Fault
judgement cluster id limit key found = first_fault (judging_rows cluster id limit key found)

-- the rows of a pair whose bytes say this
abbrev pub rows_of_said : List ℕ → ℕ → Limit → Result (Key × Record) Fault → List Row
rows_of_said cluster id limit (Ok (key, found)) = judging_rows cluster id limit key found
rows_of_said cluster id limit (Err fault) = []

-- the table of a pair's faults: those of its bytes, then those of what they say
abbrev pub pair_rows : List ℕ → ℕ → Limit → List ℕ → List ℕ → List Row
pair_rows cluster id limit key value =
    reading_rows key value ++ rows_of_said cluster id limit (said key value)

-- the first fault of a pair of the cluster with this name and this number, if it has one
unfoldable pub pair_fault : List ℕ → ℕ → Limit → List ℕ → List ℕ → Option Fault
pair_fault cluster id limit key value = first_fault (pair_rows cluster id limit key value)

abbrev pub record_in : Result (Key × Record) Fault → Result Record Fault
record_in (Ok (key, found)) = Ok found
record_in (Err fault) = Err fault

-- the record of a pair of the cluster with this name and this number, or the pair's first fault
unfoldable pub checked : List ℕ → ℕ → Limit → List ℕ → List ℕ → Result Record Fault
checked cluster id limit key value =
    unless (pair_fault cluster id limit key value) (record_in (said key value))

-- the record of a valid pair
abbrev pub valid_record : List ℕ → ℕ → Limit → List ℕ → List ℕ → Option Record
valid_record cluster id limit key value = result_ok (checked cluster id limit key value)

-- the record of a reading that is judged for the cluster with this name and this number, or the
-- first fault
abbrev pub judged_by : List ℕ → ℕ → Limit → Result (Key × Record) Fault → Result Record Fault
judged_by cluster id limit (Ok (key, found)) = unless (judgement cluster id limit key found) (Ok found)
judged_by cluster id limit (Err fault) = Err fault
