-- A node that was written is read back.
use Rattle.std.proofs.Common.{◌≡◌, ℕ, ◌<◌, ◌≤◌, ◌^◌, lit≤, true, false, List, [], ◌∷◌, map, Some, Ok, refl, arith, nat_lt, codes}
use Rattle.std.proofs.lemmas.Bool.{lt-ltb}
use Rattle.std.specs.List.{AllByRecursion}
use Rattle.serde_json.specs.Data.{depth}
use Rattle.serde_json.specs.View.{items_of}
use Rattle.serde_json.specs.Written.{has_float}
use Rattle.mesh_text.specs.declared.ip.Ip.{Ip}
use Rattle.mesh_text.specs.Addresses.{address_of, address_text}
use Rattle.record_values.specs.declared.records.Node.{Node}
use Rattle.record_reading.specs.Forms.{each}
use Rattle.record_reading.specs.Node.{node_of, node_address}
use Rattle.mesh_records.specs.Trees.{node_tree, node_address_tree}
use Rattle.mesh_records.proofs.Depths.{IsPlain, items_plain}

abbrev pub Addresses : Type 0
Addresses = List (List ℕ × Ip)

-- each address is read back from its text
abbrev pub AreRead : Addresses → Type 0
AreRead = AllByRecursion (λ (a : List ℕ × Ip). address_of (address_text a.1) ≡ Some a.1)

address_back : (field : List ℕ) (a : List ℕ × Ip) → address_of (address_text a.1) ≡ Some a.1 → node_address field (node_address_tree a) ≡ Ok a
unfolding node_address
address_back field a e = rw e refl

addresses_back : (field : List ℕ) (addresses : Addresses) → AreRead addresses → each node_address field (items_of (map node_address_tree addresses)) ≡ Ok addresses
addresses_back field [] h = refl
addresses_back field (a ∷ others) h = rw (address_back field a h.0, addresses_back field others h.1) refl

pub node_reads_back : (n : Node) → n.cluster_id < 2 ^ 32 → AreRead n.addresses → node_of (node_tree n) ≡ Ok n
unfolding node_of node_tree
node_reads_back n id h =
    let fits : nat_lt n.cluster_id (2 ^ 32) ≡ true = lt-ltb n.cluster_id (2 ^ 32) id in
    rw (fits, addresses_back (codes "IPAddresses") n.addresses h) refl

address_plain : (a : List ℕ × Ip) → IsPlain 1 (node_address_tree a)
address_plain a = (refl, lit≤ tt)

pub node_plain : (n : Node) → (has_float (node_tree n) ≡ false) × (depth (node_tree n) ≤ 127)
unfolding node_tree
node_plain n =
    let all = items_plain 1 node_address_tree address_plain n.addresses in
    (rw all.0 refl, omega (arith, all.1))
