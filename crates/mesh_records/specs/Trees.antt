-- What is written for a record: its JSON tree, with the members in byte order and absent fields left out.
use Rattle.std.specs.Prelude.{ℕ, suc, List, [], ◌∷◌, codes, map, Option, None, Some, option_map, if◌then◌else◌}
use Rattle.std.specs.Ordering.{is_eq}
use Rattle.serde_json.specs.Data.{Data, boolean, number, unsigned, string, array, object, Members, no_members, member, put}
use Rattle.serde_json.specs.View.{items_of}
use Rattle.mesh_text.specs.declared.ip.Ip.{Ip}
use Rattle.mesh_text.specs.Addresses.{address_text}
use Rattle.record_values.specs.declared.records.Node.{Node}
use Rattle.mesh_text.specs.Laws.{ip_cmp}
use Rattle.record_values.specs.Values.{Config, Address, BackendPort, Service}

abbrev pub whole : ℕ → Data
whole n = number (unsigned n)

abbrev pub address_string : Ip → Data
address_string ip = string (address_text ip)

-- a config is written with every field
unfoldable pub config_tree : Config → Data
config_tree c = object
    (member (codes "capabilities") (object
    (member (codes "cached") (boolean c.cached)
    (member (codes "maxConnectedClusters") (whole c.max_connected)
    (member (codes "syncedCanaries") (boolean c.synced_canaries) no_members))))
    (member (codes "id") (whole c.id) no_members))

abbrev pub node_address_tree : List ℕ × Ip → Data
node_address_tree a = object
    (member (codes "IP") (address_string a.1)
    (member (codes "Type") (string a.0) no_members))

unfoldable pub node_tree : Node → Data
node_tree n = object
    (member (codes "Cluster") (string n.cluster)
    (member (codes "ClusterID") (whole n.cluster_id)
    (member (codes "IPAddresses") (array (items_of (map node_address_tree n.addresses)))
    (member (codes "Name") (string n.name) no_members))))

-- the member is left out where there is nothing to say
abbrev pub put_some : List ℕ → Option Data → Members → Members
put_some name None members = members
put_some name (Some x) members = put name x members

unfoldable pub address_tree : Address → Data
address_tree a = object
    (put_some (codes "HostIP") (option_map address_string a.host)
    (put (codes "ID") (whole a.id)
    (put (codes "IP") (address_string a.ip)
    (put_some (codes "K8sNamespace") (option_map string a.namespace)
    (put_some (codes "K8sPodName") (option_map string a.pod) no_members)))))

-- the members, with more put among them, each at its name's place in byte order
abbrev pub put_all : Members → List (List ℕ × Data) → Members
put_all members [] = members
put_all members (m ∷ more) = put_all (put m.0 m.1 members) more

abbrev pub object_of : List (List ℕ × Data) → Data
object_of members = object (put_all no_members members)

-- a port has its number and its protocol
abbrev pub port_tree : BackendPort → Data
port_tree b = object
    (member (codes "Port") (whole b.port)
    (member (codes "Protocol") (string b.protocol) no_members))

abbrev pub named_port : BackendPort → List ℕ × Data
named_port b = (b.port_name, port_tree b)

-- the backends of each address, where those of one address stand together
abbrev pub with_backend : BackendPort → List (Ip × List BackendPort) → List (Ip × List BackendPort)
with_backend b [] = (b.ip, b ∷ []) ∷ []
with_backend b (a ∷ others) = if is_eq (ip_cmp b.ip a.0) then (a.0, b ∷ a.1) ∷ others else (b.ip, b ∷ []) ∷ a ∷ others

abbrev pub by_address : List BackendPort → List (Ip × List BackendPort)
by_address [] = []
by_address (b ∷ backends) = with_backend b (by_address backends)

-- how many backends at the front are of this address
abbrev pub same_address : Ip → List BackendPort → ℕ
same_address ip [] = 0
same_address ip (b ∷ backends) = if is_eq (ip_cmp b.ip ip) then suc (same_address ip backends) else 0

-- an address has a member for each of its ports
abbrev pub ports_under_address : Ip × List BackendPort → List ℕ × Data
ports_under_address a = (address_text a.0, object_of (map named_port a.1))

unfoldable pub service_tree : Service → Data
service_tree s = object
    (member (codes "backends") (object_of (map ports_under_address (by_address s.backends)))
    (member (codes "cluster") (string s.cluster)
    (member (codes "clusterID") (whole s.cluster_id)
    (member (codes "name") (string s.name)
    (member (codes "namespace") (string s.namespace)
    (member (codes "shared") (boolean s.shared) no_members))))))
