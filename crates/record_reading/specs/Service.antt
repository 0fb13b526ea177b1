-- The fields of a service (after Cilium's global services in the kvstore).
use Rattle.std.specs.Prelude.{ℕ, ◌^◌, List, [], ◌∷◌, true, codes, Result, Ok, Err, is_some, if◌then◌else◌}
use Rattle.std.specs.List.{flat_map}
use Rattle.std.specs.Map.{lookup}
use Rattle.std.specs.BTreeMap.{insert_entry, is_at}
use Rattle.serde_json.specs.Data.{Data, Members, no_members, member}
use Rattle.serde_json.specs.Find.{get, as_object}
use Rattle.mesh_text.specs.Addresses.{address_of}
use Rattle.mesh_text.specs.declared.ip.Ip.{Ip}
use Rattle.record_values.specs.declared.fault.ReadFault.{ReadFault}
use Rattle.record_values.specs.declared.fault.ReadFault.TheVariants.{AddressText}
use Rattle.record_values.specs.Values.{BackendPort, Service}
use Rattle.mesh_text.specs.Laws.{ip_cmp}
use Rattle.record_reading.specs.Judgement.{◌>>=◌}
use Rattle.record_reading.specs.Forms.{Form, required, optional, whole_below, text, truth, typed, object, protocol, either, as_address}

-- a port of an address, under its name
unfoldable pub port_of : Ip → List ℕ → Data → Result BackendPort ReadFault
port_of ip name x =
    object (codes "backends") x >>= λ _.
    required protocol (codes "backends.protocol") (either (get (codes "Protocol") x) (get (codes "protocol") x)) >>= λ protocol.
    required (whole_below 65536) (codes "backends.port") (either (get (codes "Port") x) (get (codes "port") x)) >>= λ port.
    Ok (record { ip = ip; port = port; protocol = protocol; port_name = name })

-- the ports of an address, by the byte order of their names
abbrev pub ports_of : Ip → Members → Result (List BackendPort) ReadFault
ports_of ip no_members = Ok []
ports_of ip (member name x others) = port_of ip name x >>= λ port. ports_of ip others >>= λ ports. Ok (port ∷ ports)

-- an address that is none of those before it, however it is spelled
abbrev pub new_address : List (Ip × List BackendPort) → Ip → Result Ip ReadFault
new_address before ip = if is_some (lookup (is_at (ip_cmp ip)) before) then Err (AddressText (codes "backends")) else Ok ip

-- the addresses, judged by the byte order of their names, and put in their own order among those before
abbrev pub addresses_of : List (Ip × List BackendPort) → Members → Result (List (Ip × List BackendPort)) ReadFault
addresses_of before no_members = Ok before
addresses_of before (member name x others) =
    as_address (codes "backends") (address_of name) >>= λ ip.
    new_address before ip >>= λ _.
    typed (codes "backends") (as_object x) >>= λ members.
    ports_of ip members >>= λ ports.
    addresses_of (insert_entry ip_cmp before ip ports) others

-- an object with a member for each address, which is an object with a member for each port
abbrev pub backends : Form (List BackendPort)
backends field x =
    typed field (as_object x) >>= λ members.
    addresses_of [] members >>= λ addresses.
    Ok (flat_map (λ a. a.1) addresses)

-- the fields in the order in which they are judged
unfoldable pub service_of : Data → Result Service ReadFault
service_of d =
    required text (codes "cluster") (get (codes "cluster") d) >>= λ cluster.
    required text (codes "namespace") (get (codes "namespace") d) >>= λ namespace.
    required text (codes "name") (get (codes "name") d) >>= λ name.
    required (whole_below (2 ^ 32)) (codes "clusterID") (get (codes "clusterID") d) >>= λ cluster_id.
    optional backends [] (codes "backends") (get (codes "backends") d) >>= λ backends.
    optional truth true (codes "shared") (get (codes "shared") d) >>= λ shared.
    Ok (record { cluster = cluster; namespace = namespace; name = name; cluster_id = cluster_id; backends = backends; shared = shared })
