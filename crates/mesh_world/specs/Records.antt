-- The keys and the records that a scenario's lines declare and withdraw.
-- Source: Cilium's kvstore formats of nodes, identities and addresses.
use Rattle.std.specs.Prelude.{ℕ, List, map, codes, Option, option_map, None}
use Rattle.mesh_text.specs.declared.ip.Ip.{Ip}
use Rattle.record_values.specs.declared.records.IdentityRecord.{IdentityRecord}
use Rattle.record_values.specs.declared.records.Record.{Record}
use Rattle.record_values.specs.declared.records.Record.TheVariants as «record»
use Rattle.mesh_records.specs.Written.{text_of}
use Rattle.key_paths.specs.declared.hop.Hop.TheVariants.{State}
use Rattle.key_paths.specs.declared.key.Key.{Key}
use Rattle.key_paths.specs.declared.key.Key.TheVariants as key
use Rattle.key_paths.specs.Keys.{key_bytes}
use Rattle.exporter.specs.State.{Export, after_declare, after_withdraw}
use Rattle.scenario_lang.specs.declared.scenario.Pod.{Pod}
use Rattle.scenario_lang.specs.declared.scenario.Withdrawn.{Withdrawn}
use Rattle.scenario_lang.specs.declared.scenario.Withdrawn.TheVariants as withdrawn

-- a node of the cluster with this name and this number, with these internal addresses
abbrev pub node_record : List ℕ → ℕ → List ℕ → List Ip → Record
node_record cluster number name addresses = «record».Node (record {
  name = name;
  cluster = cluster;
  cluster_id = number;
  addresses = map (λ (ip : Ip). (codes "InternalIP", ip)) addresses;
})

abbrev pub identity_of : IdentityRecord → Record
identity_of labels = «record».Identity labels

abbrev pub address_of : Ip → ℕ → Option Ip → Option Pod → Record
address_of ip identity host pod = «record».Address (record {
  ip = ip;
  host = host;
  id = identity;
  namespace = option_map (λ (p : Pod). p.namespace) pod;
  pod = option_map (λ (p : Pod). p.name) pod;
})

abbrev pub node_key_of : List ℕ → List ℕ → Key
node_key_of cluster name = key.Node State cluster name

abbrev pub identity_key : ℕ → Key
identity_key number = key.Identity None number

abbrev pub address_key : Ip → Key
address_key ip = key.Address None ip

-- the key of the record that is withdrawn
abbrev pub withdrawn_key : List ℕ → Withdrawn → Key
withdrawn_key cluster (withdrawn.Node name) = node_key_of cluster name
withdrawn_key cluster (withdrawn.Identity number) = identity_key number
withdrawn_key cluster (withdrawn.Address ip) = address_key ip

-- the exporter declares the record under the key
abbrev pub declaring : Key → Record → Export → Export
declaring key value e = after_declare (key_bytes key) (text_of value) e

-- a node of its own cluster
abbrev pub declaring_node : List ℕ → List Ip → Export → Export
declaring_node name addresses e = declaring (node_key_of e.cluster name) (node_record e.cluster e.number name addresses) e

-- the exporter withdraws a record
abbrev pub withdrawing : Withdrawn → Export → Export
withdrawing withdrawn e = after_withdraw (key_bytes (withdrawn_key e.cluster withdrawn)) e
