-- The keys of a cluster's records at one hop as its keys at the other.
use Rattle.std.specs.Prelude.{ℕ, List, [], ◌∷◌, ◌++◌, length, drop, Option, None, Some, nat_eq, if◌then◌else◌}
use Rattle.std.specs.List.{starts_with}
use Rattle.mesh_text.specs.declared.kind.Kind.{Kind}
use Rattle.key_paths.specs.declared.hop.Hop.{Hop}
use Rattle.key_paths.specs.declared.hop.Hop.TheVariants.{State, Cache}
use Rattle.key_paths.specs.Paths.{kinds, record_front}

-- what follows the front of the first of the kinds that the key has, behind that kind's front at
-- the other hop
abbrev pub moved_among : List Kind → Hop → Hop → List ℕ → List ℕ → Option (List ℕ)
moved_among [] from to cluster bytes = None
moved_among (kind ∷ more) from to cluster bytes =
    if starts_with nat_eq bytes (record_front from kind cluster)
    then Some (record_front to kind cluster ++ drop (length (record_front from kind cluster)) bytes)
    else moved_among more from to cluster bytes

-- the key with the cluster's front of its kind at one hop exchanged for that at the other, and all
-- that follows it kept; none where the key has none of the four fronts
unfoldable pub moved : Hop → Hop → List ℕ → List ℕ → Option (List ℕ)
moved from to cluster bytes = moved_among kinds from to cluster bytes

abbrev pub cache_key_of : List ℕ → List ℕ → Option (List ℕ)
cache_key_of cluster bytes = moved State Cache cluster bytes

abbrev pub state_key_of : List ℕ → List ℕ → Option (List ℕ)
state_key_of cluster bytes = moved Cache State cluster bytes
