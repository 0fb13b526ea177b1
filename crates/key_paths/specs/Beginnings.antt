-- The fixed beginnings of the mesh's keys (after Cilium's kvstore key formats).
use Rattle.std.specs.Prelude.{ℕ, List, [], ◌∷◌, codes, find, Option, None, Some, nat_eq}
use Rattle.std.specs.List.{starts_with}
use Rattle.mesh_text.specs.declared.kind.Kind.{Kind}
use Rattle.mesh_text.specs.declared.kind.Kind.TheVariants.{Nodes, Services, Identities, Addresses}
use Rattle.key_paths.specs.declared.hop.Hop.{Hop}
use Rattle.key_paths.specs.declared.hop.Hop.TheVariants.{State, Cache}
use Rattle.key_paths.specs.declared.front.Front.{Front}
use Rattle.key_paths.specs.declared.front.Front.TheVariants.{Configs, Marks, Records, Cuts}

-- the eleven beginnings; behind each one the parts of the key follow
unfoldable pub beginning : Front → List ℕ
beginning Configs = codes "cilium/cluster-config/"
beginning Marks = codes "cilium/synced/"
beginning (Records State Nodes) = codes "cilium/state/nodes/v1/"
beginning (Records State Services) = codes "cilium/state/services/v1/"
beginning (Records State Identities) = codes "cilium/state/identities/v1/id/"
beginning (Records State Addresses) = codes "cilium/state/ip/v1/default/"
beginning (Records Cache Nodes) = codes "cilium/cache/nodes/v1/"
beginning (Records Cache Services) = codes "cilium/cache/services/v1/"
beginning (Records Cache Identities) = codes "cilium/cache/identities/v1/"
beginning (Records Cache Addresses) = codes "cilium/cache/ip/v1/"
beginning Cuts = codes "cilium/cuts/v1/"

abbrev pub fronts : List Front
fronts = Configs ∷ Marks ∷ Records State Nodes ∷ Records State Services ∷ Records State Identities
    ∷ Records State Addresses ∷ Records Cache Nodes ∷ Records Cache Services
    ∷ Records Cache Identities ∷ Records Cache Addresses ∷ Cuts ∷ []

-- the beginning that the bytes have, if they have one; none is the beginning of another
unfoldable pub front_at : List ℕ → Option Front
front_at bytes = find (λ front. starts_with nat_eq bytes (beginning front)) fronts

-- the kind of record and the hop that stand behind a beginning
abbrev pub front_kind : Front → Option Kind
front_kind (Records hop kind) = Some kind
front_kind _ = None

abbrev pub front_hop : Front → Option Hop
front_hop (Records hop kind) = Some hop
front_hop _ = None
