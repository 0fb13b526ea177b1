-- The keys in the ranges of records are those of records.
use Rattle.std.proofs.Common.{◌≡◌, ℕ, Bool, true, false, cond, ◌||◌, nat_eq, List, [], ◌∷◌, ◌++◌, codes, length, drop, None, Some, Result, Ok, Err, refl, sym, ap, ◌∙◌, append_assoc}
use Rattle.std.proofs.lemmas.List.{append-nil}
use Rattle.std.specs.List.{starts_with}
use Rattle.std.specs.Result.{result_map_both}
use Rattle.store_api.specs.History.{in_ranges}
use Rattle.mesh_text.specs.declared.kind.Kind.{Kind}
use Rattle.mesh_text.specs.declared.kind.Kind.TheVariants.{Nodes, Services, Identities, Addresses}
use Rattle.mesh_text.specs.declared.ip.Ip.TheVariants.{V4}
use Rattle.key_paths.specs.declared.hop.Hop.{Hop}
use Rattle.key_paths.specs.declared.hop.Hop.TheVariants.{State, Cache}
use Rattle.key_paths.specs.declared.key.Key.{Key}
use Rattle.key_paths.specs.declared.key.Key.TheVariants as key
use Rattle.key_paths.specs.declared.fault.KeyFault.{KeyFault}
use Rattle.key_paths.specs.Beginnings.{beginning, front_at}
use Rattle.key_paths.specs.Keys.{kind_of, front_of}
use Rattle.key_paths.specs.Paths.{record_front, record_ranges}
use Rattle.key_paths.specs.Reading.{◌>>=◌, Place, cluster_at, name_at, names_at, number_at, ip_at, node_of_parts, service_of_parts, identity_of_parts, address_of_parts, key_of_parts, parts_behind, key_of}
use Rattle.key_paths.proofs.FrontLemmas.{starts-sound, front_at-beginning}
use Rattle.record_check.specs.Reading.{with_kind, record_key_of}

-- each key that is read is of the kind
AreOf : Kind → Result Key KeyFault → Type 0
AreOf kind read = (key : Key) → read ≡ Ok key → kind_of key ≡ Some kind

of_one : (kind : Kind) (key : Key) → kind_of key ≡ Some kind → AreOf kind (Ok key)
unfolding AreOf
of_one kind key is other e = let same : key ≡ other = cc in rw (← same) is

of_none : (kind : Kind) (why : KeyFault) → AreOf kind (Err why)
unfolding AreOf
of_none kind why other e = cc

of_next : {A : Type 0} (kind : Kind) (read : Result A KeyFault) (next : A → Result Key KeyFault)
    → ((a : A) → AreOf kind (next a)) → AreOf kind (read >>= next)
of_next kind (Ok a) next each = each a
of_next kind (Err why) next each = of_none kind why

nodes_of : (hop : Hop) (parts : List Place) → AreOf Nodes (node_of_parts hop parts)
nodes_of hop [] = of_none Nodes _
nodes_of hop (a ∷ []) = of_none Nodes _
nodes_of hop (cluster ∷ node ∷ []) =
    of_next Nodes (cluster_at cluster) _ (λ c. of_next Nodes (name_at node) _ (λ n. of_one Nodes _ refl))
nodes_of hop (a ∷ b ∷ c ∷ more) = of_none Nodes _

services_of : (hop : Hop) (parts : List Place) → AreOf Services (service_of_parts hop parts)
services_of hop [] = of_none Services _
services_of hop (a ∷ []) = of_none Services _
services_of hop (a ∷ b ∷ []) = of_none Services _
services_of hop (cluster ∷ namespace ∷ name ∷ []) =
    of_next Services (cluster_at cluster) _
    (λ c. of_next Services (names_at namespace name) _ (λ n. of_one Services _ refl))
services_of hop (a ∷ b ∷ c ∷ d ∷ more) = of_none Services _

of_cond : (kind : Kind) (b : Bool) (read other : Result Key KeyFault)
    → AreOf kind read → AreOf kind other → AreOf kind (cond b read other)
of_cond kind true read other h g = h
of_cond kind false read other h g = g

identities_of : (hop : Hop) (parts : List Place) → AreOf Identities (identity_of_parts hop parts)
identities_of State [] = of_none Identities _
identities_of State (number ∷ []) =
    of_next Identities (number_at number) _ (λ n. of_one Identities _ refl)
identities_of State (a ∷ b ∷ more) = of_none Identities _
identities_of Cache [] = of_none Identities _
identities_of Cache (a ∷ []) = of_none Identities _
identities_of Cache (a ∷ b ∷ []) = of_none Identities _
identities_of Cache (cluster ∷ word ∷ number ∷ []) =
    of_cond Identities _ _ _
    (of_next Identities (cluster_at cluster) _ (λ c. of_next Identities (number_at number) _ (λ n. of_one Identities _ refl)))
    (of_none Identities _)
identities_of Cache (a ∷ b ∷ c ∷ d ∷ more) = of_none Identities _

addresses_of : (hop : Hop) (parts : List Place) → AreOf Addresses (address_of_parts hop parts)
addresses_of State [] = of_none Addresses _
addresses_of State (address ∷ []) =
    of_next Addresses (ip_at address) _ (λ ip. of_one Addresses _ refl)
addresses_of State (a ∷ b ∷ more) = of_none Addresses _
addresses_of Cache [] = of_none Addresses _
addresses_of Cache (a ∷ []) = of_none Addresses _
addresses_of Cache (cluster ∷ address ∷ []) =
    of_next Addresses (cluster_at cluster) _ (λ c. of_next Addresses (ip_at address) _ (λ ip. of_one Addresses _ refl))
addresses_of Cache (a ∷ b ∷ c ∷ more) = of_none Addresses _

-- some key of a record of the kind at the hop
some_key : Hop → Kind → Key
some_key hop Nodes = key.Node hop [] []
some_key hop Services = key.Service hop [] [] []
some_key State Identities = key.Identity None 0
some_key Cache Identities = key.Identity (Some []) 0
some_key State Addresses = key.Address None (V4 0)
some_key Cache Addresses = key.Address (Some []) (V4 0)

records_of : (hop : Hop) (kind : Kind) (parts : List Place)
    → AreOf kind (key_of_parts (front_of (some_key hop kind)) parts)
unfolding some_key
records_of hop Nodes parts = nodes_of hop parts
records_of hop Services parts = services_of hop parts
records_of State Identities parts = identities_of State parts
records_of Cache Identities parts = identities_of Cache parts
records_of State Addresses parts = addresses_of State parts
records_of Cache Addresses parts = addresses_of Cache parts

-- a key of a kind stays what it is
stays : (kind : Kind) (read : Result Key KeyFault) → AreOf kind read
    → result_map_both (λ (p : Key × Kind). p.0) (λ why. why) (read >>= λ key. with_kind key (kind_of key)) ≡ read
unfolding AreOf
stays kind (Ok key) are = let e = are key refl in rw e refl
stays kind (Err why) are = refl

front_is : (hop : Hop) (kind : Kind) (cluster : List ℕ)
    → (rest : List ℕ) × (record_front hop kind cluster ≡ beginning (front_of (some_key hop kind)) ++ rest)
unfolding record_front some_key
front_is State Nodes cluster = (cluster ++ codes "/", refl)
front_is State Services cluster = (cluster ++ codes "/", refl)
front_is State Identities cluster = ([], sym (append-nil _))
front_is State Addresses cluster = ([], sym (append-nil _))
front_is Cache Nodes cluster = (cluster ++ codes "/", refl)
front_is Cache Services cluster = (cluster ++ codes "/", refl)
front_is Cache Identities cluster = (cluster ++ codes "/id/", refl)
front_is Cache Addresses cluster = (cluster ++ codes "/", refl)

front_in : (hop : Hop) (kind : Kind) (cluster bytes : List ℕ)
    → starts_with nat_eq bytes (record_front hop kind cluster) ≡ true → front_at bytes ≡ Some (front_of (some_key hop kind))
front_in hop kind cluster bytes h =
    let is = front_is hop kind cluster in
    let front = record_front hop kind cluster in
    ap front_at (starts-sound bytes front h ∙ ap (λ (f : List ℕ). f ++ drop (length front) bytes) is.1
    ∙ append_assoc (beginning (front_of (some_key hop kind))) is.0 (drop (length front) bytes))
    ∙ front_at-beginning (front_of (some_key hop kind)) (is.0 ++ drop (length front) bytes)

key_in : (hop : Hop) (kind : Kind) (cluster bytes : List ℕ)
    → starts_with nat_eq bytes (record_front hop kind cluster) ≡ true
    → result_map_both (λ (p : Key × Kind). p.0) (λ why. why) (record_key_of bytes) ≡ key_of bytes
unfolding record_key_of key_of
key_in hop kind cluster bytes h =
    let e = front_in hop kind cluster bytes h in
    rw e (stays kind _ (records_of hop kind (parts_behind (front_of (some_key hop kind)) bytes)))

pub keys_in_ranges : (cluster : List ℕ) (hop : Hop) (bytes : List ℕ)
    → in_ranges (record_ranges cluster hop) bytes ≡ true
    → result_map_both (λ (p : Key × Kind). p.0) (λ why. why) (record_key_of bytes) ≡ key_of bytes
keys_in_ranges cluster hop bytes h =
    in_one (starts Nodes) refl (starts Services) refl (starts Identities) refl (starts Addresses) refl h
  where
    starts : Kind → Bool
    starts kind = starts_with nat_eq bytes (record_front hop kind cluster)

    in_one : (a : Bool) → starts Nodes ≡ a → (b : Bool) → starts Services ≡ b → (c : Bool) → starts Identities ≡ c → (d : Bool) → starts Addresses ≡ d
        → (a || (b || (c || (d || false)))) ≡ true → result_map_both (λ (p : Key × Kind). p.0) (λ why. why) (record_key_of bytes) ≡ key_of bytes
    in_one true n b s c i d ad h = key_in hop Nodes cluster bytes n
    in_one false n true s c i d ad h = key_in hop Services cluster bytes s
    in_one false n false s true i d ad h = key_in hop Identities cluster bytes i
    in_one false n false s false i true ad h = key_in hop Addresses cluster bytes ad
    in_one false n false s false i false ad h = cc
