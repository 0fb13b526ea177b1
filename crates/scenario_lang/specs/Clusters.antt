-- The names of the clusters in a text.
use Rattle.std.specs.Prelude.{ℕ, Bool, false, List, map, Option, Some, None}
use Rattle.mesh_base.specs.Order.{same_bytes}
use Rattle.scenario_lang.specs.declared.scenario.Cluster.{Cluster}
use Rattle.scenario_lang.specs.declared.scenario.Remote.{Remote}

-- the names of the remotes so far, in order
abbrev pub Names : Type 0
Names = List (List ℕ)

abbrev pub names_of : List Remote → Names
names_of remotes = map (λ r. r.name) remotes

abbrev pub is_local_name : List ℕ → Option Cluster → Bool
is_local_name name None = false
is_local_name name (Some cluster) = same_bytes name cluster.name
