-- What a key says, and the bytes that say it.
use Rattle.std.specs.Prelude.{◌≡◌, ℕ, ◌^◌, ◌<◌, List, [], ◌∷◌, ◌++◌, codes, decimal, IsTrue, IfSome, Option, None, Some}
use Rattle.std.specs.List.{join_with_byte}
use Rattle.mesh_text.specs.declared.kind.Kind.{Kind}
use Rattle.mesh_text.specs.declared.kind.Kind.TheVariants.{Nodes, Services, Identities, Addresses}
use Rattle.mesh_text.specs.Names.{is_cluster_name, is_part_name}
use Rattle.mesh_text.specs.Addresses.{address_text}
use Rattle.mesh_text.specs.Laws.{IsIp}
use Rattle.key_paths.specs.declared.hop.Hop.{Hop}
use Rattle.key_paths.specs.declared.hop.Hop.TheVariants.{State, Cache}
use Rattle.key_paths.specs.declared.front.Front.{Front}
use Rattle.key_paths.specs.declared.front.Front.TheVariants.{Configs, Marks, Records, Cuts}
use Rattle.key_paths.specs.declared.key.Key.{Key}
use Rattle.key_paths.specs.declared.key.Key.TheVariants as key
use Rattle.key_paths.specs.Beginnings.{beginning, front_kind, front_hop}
use Rattle.key_paths.specs.Paths.{hop_word, kind_word}

-- the hop of a key that says its cluster in a cache alone
abbrev pub hop_by : Option (List ℕ) → Hop
hop_by None = State
hop_by (Some cluster) = Cache

-- the beginning of a key
abbrev pub front_of : Key → Front
front_of (key.Config cluster) = Configs
front_of (key.Synced cluster hop kind) = Marks
front_of (key.Node hop cluster node) = Records hop Nodes
front_of (key.Service hop cluster namespace name) = Records hop Services
front_of (key.Identity cached number) = Records (hop_by cached) Identities
front_of (key.Address cached ip) = Records (hop_by cached) Addresses
front_of (key.Cut cluster) = Cuts

-- the parts of a key behind its beginning, each in its canonical text
abbrev pub parts_of : Key → List (List ℕ)
parts_of (key.Config cluster) = cluster ∷ []
parts_of (key.Synced cluster hop kind) =
    cluster ∷ codes "cilium" ∷ hop_word hop ∷ kind_word kind ∷ codes "v1" ∷ []
parts_of (key.Node hop cluster node) = cluster ∷ node ∷ []
parts_of (key.Service hop cluster namespace name) = cluster ∷ namespace ∷ name ∷ []
parts_of (key.Identity None number) = decimal number ∷ []
parts_of (key.Identity (Some cluster) number) = cluster ∷ codes "id" ∷ decimal number ∷ []
parts_of (key.Address None ip) = address_text ip ∷ []
parts_of (key.Address (Some cluster) ip) = cluster ∷ address_text ip ∷ []
parts_of (key.Cut cluster) = cluster ∷ []

-- the bytes of a key: its beginning, and its parts joined by `/`
unfoldable pub key_bytes : Key → List ℕ
key_bytes key = beginning (front_of key) ++ join_with_byte 47 (parts_of key)

abbrev pub IsClusterName : List ℕ → Type 0
IsClusterName text = IsTrue (is_cluster_name text)

abbrev pub IsPartName : List ℕ → Type 0
IsPartName text = IsTrue (is_part_name text)

-- each part has its form, as the fields' own types say
abbrev pub IsKey : Key → Type 0
IsKey (key.Config cluster) = IsClusterName cluster
IsKey (key.Synced cluster hop kind) = IsClusterName cluster
IsKey (key.Node hop cluster node) = IsClusterName cluster × IsPartName node
IsKey (key.Service hop cluster namespace name) =
    IsClusterName cluster × IsPartName namespace × IsPartName name
IsKey (key.Identity cached number) = IfSome cached IsClusterName × (number < 2 ^ 32)
IsKey (key.Address cached ip) = IfSome cached IsClusterName × IsIp ip
IsKey (key.Cut cluster) = IsClusterName cluster

-- the bytes are those of the key
abbrev pub IsKeyOf : Key → List ℕ → Type 0
IsKeyOf key bytes = IsKey key × (bytes ≡ key_bytes key)

-- the kind of record that a key is of, if it is one of a record
abbrev pub kind_of : Key → Option Kind
kind_of key = front_kind (front_of key)

-- the hop at which the key of a record stands
abbrev pub hop_of : Key → Option Hop
hop_of key = front_hop (front_of key)
