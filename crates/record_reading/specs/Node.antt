-- The fields of a node (after Cilium's nodes in the kvstore).
use Rattle.std.specs.Prelude.{ℕ, ◌^◌, List, [], codes, Result, Ok}
use Rattle.serde_json.specs.Data.{Data}
use Rattle.serde_json.specs.Find.{get}
use Rattle.mesh_text.specs.declared.ip.Ip.{Ip}
use Rattle.record_values.specs.declared.fault.ReadFault.{ReadFault}
use Rattle.record_values.specs.declared.records.Node.{Node}
use Rattle.record_reading.specs.Judgement.{◌>>=◌}
use Rattle.record_reading.specs.Forms.{Form, required, optional, whole_below, text, address, object, list_of}

-- an entry of a node's addresses: its type and its address
unfoldable pub node_address : Form (List ℕ × Ip)
node_address field x =
    object field x >>= λ _.
    required text (codes "IPAddresses.Type") (get (codes "Type") x) >>= λ kind.
    required address (codes "IPAddresses.IP") (get (codes "IP") x) >>= λ ip.
    Ok (kind, ip)

-- the fields in the order in which they are judged; a node without addresses may leave them out
unfoldable pub node_of : Data → Result Node ReadFault
node_of d =
    required text (codes "Name") (get (codes "Name") d) >>= λ name.
    required text (codes "Cluster") (get (codes "Cluster") d) >>= λ cluster.
    required (whole_below (2 ^ 32)) (codes "ClusterID") (get (codes "ClusterID") d) >>= λ cluster_id.
    optional (list_of node_address) [] (codes "IPAddresses") (get (codes "IPAddresses") d) >>= λ addresses.
    Ok (record { name = name; cluster = cluster; cluster_id = cluster_id; addresses = addresses })
