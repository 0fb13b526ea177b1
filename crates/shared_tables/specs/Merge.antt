-- The rows of all sources: a filter and a union over their record sets.
-- Source: Cilium's ClusterMesh documentation (an agent merges the nodes, identities, addresses and
-- shared services of all clusters). The row of an address that several clusters have, and the
-- rejected pairs, are this project's own.
use Rattle.std.specs.Prelude.{◌≡◌, ℕ, List, [], ◌∷◌, map, filter, flat_map, Bool, not, ◌&&◌, nat_lt, Option, None, Some, Ok, Err, if◌then◌else◌}
use Rattle.std.specs.List.{list_any}
use Rattle.record_values.specs.Values.{BackendPort}
use Rattle.record_values.specs.declared.records.Record.{Record}
use Rattle.record_values.specs.declared.records.Record.TheVariants.{Node, Service, Identity, Address}
use Rattle.key_paths.specs.declared.key.Key.{Key}
use Rattle.key_paths.specs.declared.key.Key.TheVariants as key
use Rattle.key_paths.specs.Paths.{config_key}
use Rattle.record_check.specs.declared.fault.Fault.{Fault}
use Rattle.record_check.specs.declared.limit.Limit.{Limit}
use Rattle.record_check.specs.Judging.{judgement, same_ip}
use Rattle.shared_tables.specs.declared.rows.Why.TheVariants as why
use Rattle.shared_tables.specs.declared.rows.NodeRow.{NodeRow}
use Rattle.shared_tables.specs.declared.rows.IdentityRow.{IdentityRow}
use Rattle.shared_tables.specs.declared.rows.AddressRow.{AddressRow}
use Rattle.shared_tables.specs.declared.rows.BackendRow.{BackendRow}
use Rattle.shared_tables.specs.declared.rows.RejectRow.{RejectRow}
use Rattle.shared_tables.specs.declared.rows.Report.{Report}
use Rattle.shared_tables.specs.declared.standing.Standing.{Standing}
use Rattle.shared_tables.specs.declared.standing.Standing.TheVariants.{NoConfig, Refused, Admitted}
use Rattle.shared_tables.specs.Admission.{standing_of}
use Rattle.shared_tables.specs.RecordSets.{Reading, RecordSet}
use Rattle.shared_tables.specs.Rows.{SameRows}

-- the first fault of a pair of the cluster with this name and this number, if it has one
abbrev pub fault_in : Limit → List ℕ → ℕ → Reading → Option Fault
fault_in limit cluster number (Ok (key, value)) = judgement cluster number limit key value
fault_in limit cluster number (Err fault) = Some fault

-- a record of an admitted cluster, under its key
pub record Entry : Type 0 where
  pub cluster : List ℕ
  pub number : ℕ
  pub key : Key
  pub value : Record

abbrev pub unless_faulty : Option Fault → Entry → List Entry
unless_faulty None entry = entry ∷ []
unless_faulty (Some fault) entry = []

-- the record of a pair of the cluster with this name and this number, where the pair is valid
abbrev pub valid_of : Limit → List ℕ → ℕ → Reading → List Entry
valid_of limit cluster number (Ok (key, value)) =
    unless_faulty (judgement cluster number limit key value)
    (record { cluster = cluster; number = number; key = key; value = value })
valid_of limit cluster number (Err fault) = []

-- the valid records of a source that is admitted, and nothing of any other
abbrev pub part : Limit → Standing → RecordSet → List Entry
part limit NoConfig s = []
part limit (Refused cause) s = []
part limit (Admitted number) s = flat_map (λ (pair : List ℕ × Reading). valid_of limit s.name number pair.1) s.pairs

-- how the source stands among all
abbrev pub standing : ℕ → List RecordSet → RecordSet → Standing
standing local sets s = standing_of local sets s.name s.config

-- the parts of all sources, where the local cluster has the number `local`
abbrev pub parts : Limit → ℕ → List RecordSet → List Entry
parts limit local sets = flat_map (λ (s : RecordSet). part limit (standing local sets s) s) sets

abbrev pub node_row_by : List ℕ → Key → Record → List NodeRow
node_row_by cluster (key.Node hop named name) (Node node) =
    record { cluster = cluster; name = name; addresses = node.addresses } ∷ []
node_row_by cluster _ _ = []

abbrev pub identity_row_by : List ℕ → Key → Record → List IdentityRow
identity_row_by cluster (key.Identity cached number) (Identity identity) =
    record { cluster = cluster; number = number; labels = identity.labels } ∷ []
identity_row_by cluster _ _ = []

abbrev pub address_row_by : List ℕ → Record → List AddressRow
address_row_by cluster (Address address) =
    record { ip = address.ip; cluster = cluster; identity = address.id; host = address.host; namespace = address.namespace; pod = address.pod } ∷ []
address_row_by cluster _ = []

abbrev pub backend_row : List ℕ → List ℕ → List ℕ → BackendPort → BackendRow
backend_row cluster namespace name backend =
    record { namespace = namespace; name = name; cluster = cluster; backend = backend }

abbrev pub backend_rows_by : List ℕ → Key → Record → List BackendRow
backend_rows_by cluster (key.Service hop named namespace name) (Service service) =
    if service.shared then map (backend_row cluster namespace name) service.backends else []
backend_rows_by cluster _ _ = []

-- a node's row
abbrev pub node_row : Entry → List NodeRow
node_row e = node_row_by e.cluster e.key e.value

-- an identity's row
abbrev pub identity_row : Entry → List IdentityRow
identity_row e = identity_row_by e.cluster e.key e.value

-- the rows of a service: one for each backend where it is shared
abbrev pub service_rows : Entry → List BackendRow
service_rows e = backend_rows_by e.cluster e.key e.value

-- a claim on an address: the number of a cluster, and the row that it has for the address
abbrev pub Claim : Type 0
Claim = ℕ × AddressRow

-- an address's claim
abbrev pub claim : Entry → List Claim
claim e = map (λ (row : AddressRow). (e.number, row)) (address_row_by e.cluster e.value)

-- the other is a claim on the same address by a cluster with a lesser number
abbrev pub is_before : Claim → Claim → Bool
is_before c other = same_ip other.1.ip c.1.ip && nat_lt other.0 c.0

-- no claim on the same address has a lesser number
abbrev pub is_least : List Claim → Claim → Bool
is_least claims c = not (list_any (is_before c) claims)

-- of each address the claim whose number is least
abbrev pub least_claims : List Claim → List Claim
least_claims claims = filter (is_least claims) claims

abbrev pub reject_by : List ℕ → List ℕ → Option Fault → List RejectRow
reject_by cluster key None = []
reject_by cluster key (Some fault) =
    record { cluster = cluster; key = key; why = why.Fault fault } ∷ []

-- the reject row of a pair of the cluster with this name and this number, where it has a fault
abbrev pub pair_reject : Limit → List ℕ → ℕ → List ℕ × Reading → List RejectRow
pair_reject limit cluster number (key, reading) =
    reject_by cluster key (fault_in limit cluster number reading)

-- the reject rows of a source: one for its config where it is not admitted though it has one, or
-- one for each faulty pair where it is admitted
abbrev pub rejects : Limit → Standing → RecordSet → List RejectRow
rejects limit NoConfig s = []
rejects limit (Refused cause) s = record { cluster = s.name; key = config_key s.name; why = cause } ∷ []
rejects limit (Admitted number) s = flat_map (pair_reject limit s.name number) s.pairs

-- the rows of all sources by kind, where the local cluster has the number `local`
abbrev pub node_rows : Limit → ℕ → List RecordSet → List NodeRow
node_rows limit local sets = flat_map node_row (parts limit local sets)

abbrev pub identity_rows : Limit → ℕ → List RecordSet → List IdentityRow
identity_rows limit local sets = flat_map identity_row (parts limit local sets)

abbrev pub claims : Limit → ℕ → List RecordSet → List Claim
claims limit local sets = flat_map claim (parts limit local sets)

abbrev pub address_rows : Limit → ℕ → List RecordSet → List AddressRow
address_rows limit local sets = map (λ (c : Claim). c.1) (least_claims (claims limit local sets))

abbrev pub backend_rows : Limit → ℕ → List RecordSet → List BackendRow
backend_rows limit local sets = flat_map service_rows (parts limit local sets)

abbrev pub reject_rows : Limit → ℕ → List RecordSet → List RejectRow
reject_rows limit local sets = flat_map (λ (s : RecordSet). rejects limit (standing local sets s) s) sets

-- the report has the rows of all sources, in any order; it says nothing of how far a source was
-- seen, and no local service has chosen backends
pub record IsMerge (limit : Limit) (local : ℕ) (sets : List RecordSet) (report : Report) : Type 0 where
  pub sources : report.sources ≡ []
  pub nodes : SameRows (node_rows limit local sets) report.nodes
  pub identities : SameRows (identity_rows limit local sets) report.identities
  pub addresses : SameRows (address_rows limit local sets) report.addresses
  pub backends : SameRows (backend_rows limit local sets) report.backends
  pub chosen : report.chosen ≡ []
  pub rejects : SameRows (reject_rows limit local sets) report.rejects
