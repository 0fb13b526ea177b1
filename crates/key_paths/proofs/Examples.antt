-- What some bytes say, by computing.
use Rattle.std.proofs.Common.{◌≡◌, codes, Some, None, Ok, Err, refl}
use Rattle.mesh_text.specs.declared.kind.Kind.TheVariants.{Addresses}
use Rattle.mesh_text.specs.Names.{is_cluster_name, is_part_name}
use Rattle.mesh_text.specs.Numbers.{number_of}
use Rattle.key_paths.specs.declared.hop.Hop.TheVariants.{State, Cache}
use Rattle.key_paths.specs.declared.key.Key.TheVariants as key
use Rattle.key_paths.specs.declared.fault.KeyFault.TheVariants as fault
use Rattle.key_paths.specs.Beginnings.{beginning, front_at}
use Rattle.key_paths.specs.Paths.{record_front}
use Rattle.key_paths.specs.Reading.{key_of}
use Rattle.key_paths.specs.Mapping.{cache_key_of, moved}

node : key_of (codes "cilium/state/nodes/v1/east/n1") ≡ Ok (key.Node State (codes "east") (codes "n1"))
unfolding key_of front_at beginning is_cluster_name is_part_name
node = refl

mark : key_of (codes "cilium/synced/east/cilium/cache/ip/v1") ≡ Ok (key.Synced (codes "east") Cache Addresses)
unfolding key_of front_at beginning is_cluster_name is_part_name
mark = refl

identity : key_of (codes "cilium/state/identities/v1/id/131328") ≡ Ok (key.Identity None 131328)
unfolding key_of front_at beginning is_cluster_name is_part_name number_of
identity = refl

late_word : key_of (codes "cilium/cache/identities/v1/Ea/ix/131328") ≡ Err (fault.Parts 3)
unfolding key_of front_at beginning is_cluster_name is_part_name number_of
late_word = refl

large : key_of (codes "cilium/cache/identities/v1/e/id/4294967296") ≡ Err (fault.Number 32)
unfolding key_of front_at beginning is_cluster_name is_part_name number_of
large = refl

mapped : cache_key_of (codes "e") (codes "cilium/state/nodes/v1/e/X Y") ≡ Some (codes "cilium/cache/nodes/v1/e/X Y")
unfolding moved record_front beginning
mapped = refl
