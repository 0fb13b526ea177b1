-- The definitions at worked examples.
use Rattle.std.specs.Prelude.{◌≡◌, ℕ, List, [], ◌∷◌, Bool, true, false, None, Some, Ok, Err, refl, codes}
use Rattle.mesh_text.specs.declared.ip.Ip.TheVariants.{V4}
use Rattle.key_paths.specs.declared.hop.Hop.TheVariants.{State}
use Rattle.key_paths.specs.declared.key.Key.TheVariants as key
use Rattle.key_paths.specs.Beginnings.{beginning}
use Rattle.record_values.specs.Values.{BackendPort}
use Rattle.record_values.specs.declared.records.Record.TheVariants.{Node, Service, Address}
use Rattle.record_check.specs.declared.limit.Limit.TheVariants.{Small}
use Rattle.record_check.specs.declared.fault.Fault.TheVariants as fault
use Rattle.record_check.specs.Judging.{judgement}
use Rattle.shared_tables.specs.declared.rows.Why.TheVariants as why
use Rattle.shared_tables.specs.Merge.{node_rows, address_rows, backend_rows, reject_rows}
use Rattle.shared_tables.specs.RecordSets.{ConfigSaid, Reading, RecordSet}

config_of : ℕ → ConfigSaid
config_of id = Some (Ok (record { id = id; synced_canaries = true; cached = false; max_connected = 255 }))

-- one address from two clusters: the row of the lesser number is shown, and the other's once that
-- one is withdrawn
address : ℕ → Reading
address id = Ok (key.Address None (V4 167772165), Address (record { ip = V4 167772165; host = None; id = id; namespace = None; pod = None }))

both : List RecordSet
both = record { name = codes "west"; config = config_of 2; pairs = (codes "cilium/state/ip/v1/default/10.0.0.5", address 131328) ∷ [] }
    ∷ record { name = codes "east"; config = config_of 1; pairs = (codes "cilium/state/ip/v1/default/10.0.0.5", address 65792) ∷ [] } ∷ []

left : List RecordSet
left = record { name = codes "west"; config = config_of 2; pairs = (codes "cilium/state/ip/v1/default/10.0.0.5", address 131328) ∷ [] }
    ∷ record { name = codes "east"; config = config_of 1; pairs = [] } ∷ []

first_shown : address_rows Small 9 both ≡ record { ip = V4 167772165; cluster = codes "east"; identity = 65792; host = None; namespace = None; pod = None } ∷ []
unfolding both address config_of judgement
first_shown = refl

then_shown : address_rows Small 9 left ≡ record { ip = V4 167772165; cluster = codes "west"; identity = 131328; host = None; namespace = None; pod = None } ∷ []
unfolding left address config_of judgement
then_shown = refl

-- two clusters with one number: the one whose name is first is admitted, and the other once that
-- one's config is gone or has a fault
node : List ℕ → ℕ → List ℕ → Reading
node cluster id name = Ok (key.Node State cluster name, Node (record { name = name; cluster = cluster; cluster_id = id; addresses = [] }))

twice : ConfigSaid → List RecordSet
twice config = record { name = codes "west"; config = config_of 1; pairs = (codes "cilium/state/nodes/v1/west/n1", node (codes "west") 1 (codes "n1")) ∷ [] }
    ∷ record { name = codes "east"; config = config; pairs = [] } ∷ []

refused : reject_rows Small 9 (twice (config_of 1)) ≡ record { cluster = codes "west"; key = codes "cilium/cluster-config/west"; why = why.IdTaken } ∷ []
unfolding twice node config_of judgement beginning
refused = refl

no_nodes : node_rows Small 9 (twice (config_of 1)) ≡ []
unfolding twice node config_of judgement
no_nodes = refl

admitted : node_rows Small 9 (twice None) ≡ record { cluster = codes "west"; name = codes "n1"; addresses = [] } ∷ []
unfolding twice node config_of judgement
admitted = refl

admitted_beside_fault : node_rows Small 9 (twice (Some (Err fault.ClusterId))) ≡ record { cluster = codes "west"; name = codes "n1"; addresses = [] } ∷ []
unfolding twice node config_of judgement
admitted_beside_fault = refl

config_rejected : reject_rows Small 9 (twice (Some (Err fault.ClusterId))) ≡ record { cluster = codes "east"; key = codes "cilium/cluster-config/east"; why = why.Fault fault.ClusterId } ∷ []
unfolding twice node config_of judgement beginning
config_rejected = refl

-- a source with the local cluster's number
local_number : reject_rows Small 1 (twice None) ≡ record { cluster = codes "west"; key = codes "cilium/cluster-config/west"; why = why.IdLocal } ∷ []
unfolding twice node config_of judgement beginning
local_number = refl

-- a faulty pair beside a good one: the record's name is not that of its key
mixed : List RecordSet
mixed = record {
  name = codes "east";
  config = config_of 1;
  pairs = (codes "cilium/state/nodes/v1/east/n1", node (codes "east") 1 (codes "n1"))
      ∷ (codes "cilium/state/nodes/v1/east/n2", Ok (key.Node State (codes "east") (codes "n2"), Node (record { name = codes "n3"; cluster = codes "east"; cluster_id = 1; addresses = [] }))) ∷ [];
} ∷ []

mixed_nodes : node_rows Small 9 mixed ≡ record { cluster = codes "east"; name = codes "n1"; addresses = [] } ∷ []
unfolding mixed node config_of judgement
mixed_nodes = refl

mixed_rejects : reject_rows Small 9 mixed ≡ record { cluster = codes "east"; key = codes "cilium/state/nodes/v1/east/n2"; why = why.Fault fault.Name } ∷ []
unfolding mixed node config_of judgement
mixed_rejects = refl

-- the backends of a service are shown where it is shared
backend : BackendPort
backend = record { ip = V4 167772169; port = 80; protocol = codes "TCP"; port_name = codes "http" }

services : Bool → List RecordSet
services shared = record {
  name = codes "east";
  config = config_of 1;
  pairs = (codes "cilium/state/services/v1/east/shop/web", Ok (key.Service State (codes "east") (codes "shop") (codes "web"), Service (record { cluster = codes "east"; namespace = codes "shop"; name = codes "web"; cluster_id = 1; backends = backend ∷ []; shared = shared }))) ∷ [];
} ∷ []

shared_backends : backend_rows Small 9 (services true) ≡ record { namespace = codes "shop"; name = codes "web"; cluster = codes "east"; backend = backend } ∷ []
unfolding services config_of judgement
shared_backends = refl

own_backends : backend_rows Small 9 (services false) ≡ []
unfolding services config_of judgement
own_backends = refl
