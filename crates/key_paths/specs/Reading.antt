-- The key of given bytes, or the first of their faults.
use Rattle.std.specs.Prelude.{◌≡◌, ◌⊎◌, ℕ, ◌+◌, ◌^◌, ◌&&◌, nat_lt, bytes_eq, List, [], ◌∷◌, length, drop, codes, Option, None, Some, option_map, option_and_then, find, Result, Ok, Err, if◌then◌else◌}
use Rattle.mesh_text.specs.declared.ip.Ip.{Ip}
use Rattle.mesh_text.specs.declared.kind.Kind.{Kind}
use Rattle.mesh_text.specs.declared.kind.Kind.TheVariants.{Nodes, Services, Identities, Addresses}
use Rattle.mesh_text.specs.Names.{is_cluster_name, is_part_name}
use Rattle.mesh_text.specs.Numbers.{number_of}
use Rattle.mesh_text.specs.Addresses.{address_of, address_text, split_at}
use Rattle.key_paths.specs.declared.hop.Hop.{Hop}
use Rattle.key_paths.specs.declared.hop.Hop.TheVariants.{State, Cache}
use Rattle.key_paths.specs.declared.front.Front.{Front}
use Rattle.key_paths.specs.declared.front.Front.TheVariants.{Configs, Marks, Records, Cuts}
use Rattle.key_paths.specs.declared.key.Key.{Key}
use Rattle.key_paths.specs.declared.key.Key.TheVariants as key
use Rattle.key_paths.specs.declared.fault.KeyFault.{KeyFault}
use Rattle.key_paths.specs.declared.fault.KeyFault.TheVariants as fault
use Rattle.key_paths.specs.Beginnings.{beginning, front_at}
use Rattle.key_paths.specs.Paths.{hops, kinds, hop_word, kind_word}

infixl 10 ◌>>=◌
-- first this judgement, then the next with what it gave; the first fault is the answer
abbrev pub ◌>>=◌ : {A B : Type 0} → Result A KeyFault → (A → Result B KeyFault) → Result B KeyFault
(Ok x) >>= next = next x
(Err e) >>= next = Err e

-- a part of a key, and the place of its first byte in the key
pub record Place : Type 0 where
  pub at : ℕ
  pub text : List ℕ

-- parts with a `/` between them, the first of which begins at a place
abbrev pub placed : ℕ → List (List ℕ) → List Place
placed at [] = []
placed at (text ∷ texts) =
    record { at = at; text = text } ∷ placed (at + length text + 1) texts

-- what stands behind a beginning, split at each `/`
abbrev pub parts_behind : Front → List ℕ → List Place
parts_behind front bytes =
    let n = length (beginning front) in placed n (split_at 47 (drop n bytes))

-- what a part says, or its fault
abbrev pub or_fault : {A : Type 0} → Option A → KeyFault → Result A KeyFault
or_fault (Some x) fault = Ok x
or_fault None fault = Err fault

abbrev pub cluster_at : Place → Result (List ℕ) KeyFault
cluster_at part = if is_cluster_name part.text then Ok part.text else Err (fault.Name part.at)

abbrev pub name_at : Place → Result (List ℕ) KeyFault
name_at part = if is_part_name part.text then Ok part.text else Err (fault.Name part.at)

-- the number below 2^32 that a canonical decimal text writes
abbrev pub small_number_of : List ℕ → Option ℕ
small_number_of text =
    option_and_then (λ n. if nat_lt n (2 ^ 32) then Some n else None) (number_of text)

abbrev pub number_at : Place → Result ℕ KeyFault
number_at part = or_fault (small_number_of part.text) (fault.Number part.at)

-- the address whose canonical text this is
abbrev pub canonical_address_of : List ℕ → Option Ip
canonical_address_of text =
    option_and_then (λ ip. if bytes_eq (address_text ip) text then Some ip else None) (address_of text)

abbrev pub ip_at : Place → Result Ip KeyFault
ip_at part = or_fault (canonical_address_of part.text) (fault.Address part.at)

-- there are not the parts that there must be
abbrev pub other_parts : {X : Type 0} → List Place → Result X KeyFault
other_parts parts = Err (fault.Parts (length parts))

-- a cluster alone
abbrev pub cluster_alone : List Place → Result (List ℕ) KeyFault
cluster_alone (cluster ∷ []) = cluster_at cluster
cluster_alone parts = other_parts parts

-- the hop and the kind whose words these are
abbrev pub hop_named : List ℕ → Option Hop
hop_named text = find (λ hop. bytes_eq text (hop_word hop)) hops

abbrev pub kind_named : List ℕ → Option Kind
kind_named text = find (λ kind. bytes_eq text (kind_word kind)) kinds

-- the hop and the kind of which four parts are the path, as `cilium/state/nodes/v1`
abbrev pub path_of : List ℕ → List ℕ → List ℕ → List ℕ → Option (Hop × Kind)
path_of first hop kind last =
    if bytes_eq first (codes "cilium") && bytes_eq last (codes "v1")
    then option_and_then (λ hop. option_map (λ kind. (hop, kind)) (kind_named kind)) (hop_named hop)
    else None

abbrev pub mark_from : Place → Option (Hop × Kind) → Result Key KeyFault
mark_from cluster None = Err (fault.Parts 5)
mark_from cluster (Some path) = do
  cluster ← cluster_at cluster
  Ok (key.Synced cluster path.0 path.1)

-- a cluster and the path of a kind
abbrev pub mark_of_parts : List Place → Result Key KeyFault
mark_of_parts (cluster ∷ first ∷ hop ∷ kind ∷ last ∷ []) =
    mark_from cluster (path_of first.text hop.text kind.text last.text)
mark_of_parts parts = other_parts parts

-- a cluster and a node
abbrev pub node_of_parts : Hop → List Place → Result Key KeyFault
node_of_parts hop (cluster ∷ node ∷ []) = do
  cluster ← cluster_at cluster
  node ← name_at node
  Ok (key.Node hop cluster node)
node_of_parts hop parts = other_parts parts

-- a namespace and a name in it
abbrev pub names_at : Place → Place → Result (List ℕ × List ℕ) KeyFault
names_at namespace name = do
  namespace ← name_at namespace
  name ← name_at name
  Ok (namespace, name)

-- a cluster, a namespace and a name
abbrev pub service_of_parts : Hop → List Place → Result Key KeyFault
service_of_parts hop (cluster ∷ namespace ∷ name ∷ []) = do
  cluster ← cluster_at cluster
  names ← names_at namespace name
  Ok (key.Service hop cluster names.0 names.1)
service_of_parts hop parts = other_parts parts

-- a number, in a cache behind a cluster and the word `id`
abbrev pub identity_of_parts : Hop → List Place → Result Key KeyFault
identity_of_parts State (number ∷ []) = do
  number ← number_at number
  Ok (key.Identity None number)
identity_of_parts Cache (cluster ∷ word ∷ number ∷ []) =
    if bytes_eq word.text (codes "id") then (do
      cluster ← cluster_at cluster
      number ← number_at number
      Ok (key.Identity (Some cluster) number))
    else Err (fault.Parts 3)
identity_of_parts hop parts = other_parts parts

-- an address, in a cache behind a cluster
abbrev pub address_of_parts : Hop → List Place → Result Key KeyFault
address_of_parts State (address ∷ []) = do
  ip ← ip_at address
  Ok (key.Address None ip)
address_of_parts Cache (cluster ∷ address ∷ []) = do
  cluster ← cluster_at cluster
  ip ← ip_at address
  Ok (key.Address (Some cluster) ip)
address_of_parts hop parts = other_parts parts

abbrev pub record_of_parts : Kind → Hop → List Place → Result Key KeyFault
record_of_parts Nodes hop parts = node_of_parts hop parts
record_of_parts Services hop parts = service_of_parts hop parts
record_of_parts Identities hop parts = identity_of_parts hop parts
record_of_parts Addresses hop parts = address_of_parts hop parts

-- the key that parts behind a beginning make
abbrev pub key_of_parts : Front → List Place → Result Key KeyFault
key_of_parts Configs parts = do
  cluster ← cluster_alone parts
  Ok (key.Config cluster)
key_of_parts Marks parts = mark_of_parts parts
key_of_parts (Records hop kind) parts = record_of_parts kind hop parts
key_of_parts Cuts parts = do
  cluster ← cluster_alone parts
  Ok (key.Cut cluster)

abbrev pub key_behind : Option Front → List ℕ → Result Key KeyFault
key_behind None bytes = Err fault.UnknownPrefix
key_behind (Some front) bytes = key_of_parts front (parts_behind front bytes)

-- the key of the bytes, or the first of their faults: no beginning, then the parts that there must
-- be, then each part from the left
unfoldable pub key_of : List ℕ → Result Key KeyFault
key_of bytes = key_behind (front_at bytes) bytes

-- the answer is the judgement, unless memory is wanted
abbrev pub Gives : {X : Type 0} → Result X KeyFault → Result X KeyFault → Type 0
Gives (Ok x) judgement = judgement ≡ Ok x
Gives (Err e) judgement = (judgement ≡ Err e) ⊎ (e ≡ fault.Memory)
