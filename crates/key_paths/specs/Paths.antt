-- The keys and the fronts of keys that are a cluster's own, and the ranges that its readers follow.
use Rattle.std.specs.Prelude.{ℕ, List, [], ◌∷◌, ◌++◌, map, codes}
use Rattle.mesh_text.specs.declared.kind.Kind.{Kind}
use Rattle.mesh_text.specs.declared.kind.Kind.TheVariants.{Nodes, Services, Identities, Addresses}
use Rattle.store_api.specs.declared.change.Range.{Range}
use Rattle.store_api.specs.declared.change.Range.TheVariants.{One, Prefix}
use Rattle.key_paths.specs.declared.hop.Hop.{Hop}
use Rattle.key_paths.specs.declared.hop.Hop.TheVariants.{State, Cache}
use Rattle.key_paths.specs.declared.front.Front.TheVariants.{Configs, Marks, Records, Cuts}
use Rattle.key_paths.specs.Beginnings.{beginning}

abbrev pub kinds : List Kind
kinds = Nodes ∷ Services ∷ Identities ∷ Addresses ∷ []

abbrev pub hops : List Hop
hops = State ∷ Cache ∷ []

abbrev pub hop_word : Hop → List ℕ
hop_word State = codes "state"
hop_word Cache = codes "cache"

abbrev pub kind_word : Kind → List ℕ
kind_word Nodes = codes "nodes"
kind_word Services = codes "services"
kind_word Identities = codes "identities"
kind_word Addresses = codes "ip"

-- the path of a kind of record at a hop, as `cilium/state/nodes/v1`
abbrev pub kind_path : Hop → Kind → List ℕ
kind_path hop kind =
    codes "cilium/" ++ (hop_word hop ++ (codes "/" ++ (kind_word kind ++ codes "/v1")))

-- the key of the cluster's config
abbrev pub config_key : List ℕ → List ℕ
config_key cluster = beginning Configs ++ cluster

-- the key of the cluster's cut
abbrev pub cut_key : List ℕ → List ℕ
cut_key cluster = beginning Cuts ++ cluster

-- what every key below the cluster's marks begins with
abbrev pub marks_front : List ℕ → List ℕ
marks_front cluster = beginning Marks ++ (cluster ++ codes "/")

-- the key of the cluster's mark for a kind at a hop
abbrev pub mark_key : List ℕ → Hop → Kind → List ℕ
mark_key cluster hop kind = marks_front cluster ++ kind_path hop kind

-- what every key of a record of the cluster begins with, by hop and kind; in an exporter's store
-- the keys of identities and addresses do not say the cluster
unfoldable pub record_front : Hop → Kind → List ℕ → List ℕ
record_front State Nodes cluster = beginning (Records State Nodes) ++ (cluster ++ codes "/")
record_front State Services cluster = beginning (Records State Services) ++ (cluster ++ codes "/")
record_front State Identities cluster = beginning (Records State Identities)
record_front State Addresses cluster = beginning (Records State Addresses)
record_front Cache Nodes cluster = beginning (Records Cache Nodes) ++ (cluster ++ codes "/")
record_front Cache Services cluster = beginning (Records Cache Services) ++ (cluster ++ codes "/")
record_front Cache Identities cluster = beginning (Records Cache Identities) ++ (cluster ++ codes "/id/")
record_front Cache Addresses cluster = beginning (Records Cache Addresses) ++ (cluster ++ codes "/")

-- the keys of the cluster's records of one kind
abbrev pub record_range : Hop → List ℕ → Kind → Range
record_range hop cluster kind = Prefix (record_front hop kind cluster)

-- the keys of the cluster's records of all four kinds
abbrev pub record_ranges : List ℕ → Hop → List Range
record_ranges cluster hop = map (record_range hop cluster) kinds

-- what a reader of the cluster follows at a hop: its config, what stands below its marks and its
-- records, and in a cache its cut
unfoldable pub ranges_of : List ℕ → Hop → List Range
ranges_of cluster State =
    One (config_key cluster) ∷ Prefix (marks_front cluster) ∷ record_ranges cluster State
ranges_of cluster Cache =
    One (config_key cluster) ∷ Prefix (marks_front cluster)
    ∷ (record_ranges cluster Cache ++ One (cut_key cluster) ∷ [])

-- those of the ranges that are the cluster's alone: in an exporter's store the keys of identities
-- and addresses are not
unfoldable pub own_ranges : List ℕ → Hop → List Range
own_ranges cluster State =
    One (config_key cluster) ∷ Prefix (marks_front cluster)
    ∷ record_range State cluster Nodes ∷ record_range State cluster Services ∷ []
own_ranges cluster Cache = ranges_of cluster Cache
