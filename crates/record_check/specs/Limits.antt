-- The numbers that a mesh is limited to.
-- Source: Cilium's ClusterMesh documentation (`maxConnectedClusters` is 255 or 511; cluster numbers
-- are from 1 up to it) and Cilium's numeric identities (the cluster's number stands above the low
-- bits, and the identities below 256 are reserved).
use Rattle.std.specs.Prelude.{ℕ, ◌/◌, ◌^◌, ◌&&◌, Bool, nat_le, nat_lt, Option, None, Some, if◌then◌else◌}
use Rattle.record_check.specs.declared.limit.Limit.{Limit}
use Rattle.record_check.specs.declared.limit.Limit.TheVariants.{Small}

-- the last number of a cluster, which is how many clusters the mesh may have
abbrev pub last_cluster : Limit → ℕ
last_cluster Small = 255

-- how many low bits of an identity stand below its cluster's number
abbrev pub identity_bits : Limit → ℕ
identity_bits Small = 16

-- the first identity that is one cluster's; those below are reserved, and every cluster has them
abbrev pub first_own_identity : ℕ
first_own_identity = 256

-- how many bytes a value may have
abbrev pub longest_value : ℕ
longest_value = 32768

-- the number is one that a cluster may have
abbrev pub is_cluster_number : Limit → ℕ → Bool
is_cluster_number limit number = nat_le 1 number && nat_le number (last_cluster limit)

-- the number of the cluster that an identity is of, by its high bits
abbrev pub cluster_part : Limit → ℕ → ℕ
cluster_part limit identity = identity / 2 ^ identity_bits limit

-- the number of the cluster that an identity is one of, where it is not reserved
abbrev pub cluster_owning : Limit → ℕ → Option ℕ
cluster_owning limit identity =
    if nat_lt identity first_own_identity then None else Some (cluster_part limit identity)
