use Rattle.std.proofs.Common.{◌≡◌, ◌++◌, List, ℕ, map, drop, Some}
use Rattle.std.specs.List.{AllByRecursion}
use Rattle.serde_json.specs.View.{view}
use Rattle.mesh_text.specs.declared.ip.Ip.{Ip}
use Rattle.mesh_text.specs.Addresses.{address_of, address_text}
use Rattle.mesh_records.specs.Trees.{node_address_tree}
use Rattle.mesh_records.proofs.trees.node_address_values.Given as goal

-- the trees so far and those of the rest are the trees of all
abbrev pub invariant-loop-address : goal.invariant-loop-address
invariant-loop-address l = record {
  trees : map view l.values.items ++ map node_address_tree (drop l.address-index l.addresses) ≡ map node_address_tree l.addresses;
  read_back : AllByRecursion (λ (a : List ℕ × Ip). address_of (address_text a.1) ≡ Some a.1) (drop l.address-index l.addresses)
      → AllByRecursion (λ (a : List ℕ × Ip). address_of (address_text a.1) ≡ Some a.1) l.addresses;
}
