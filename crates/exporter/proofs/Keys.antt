-- The keys of a cluster's records stand among its ranges, and apart from its config and its marks.
use Rattle.std.proofs.Common.{◌≡◌, ℕ, List, ◌∷◌, ◌++◌, Bool, true, false, ◌||◌, decimal, nat_eq, refl, ap, ◌∙◌}
use Rattle.std.specs.Bool.{IsTrue}
use Rattle.std.specs.List.{starts_with}
use Rattle.mesh_text.specs.declared.kind.Kind.{Kind}
use Rattle.mesh_text.specs.declared.kind.Kind.TheVariants.{Nodes, Services, Identities, Addresses}
use Rattle.mesh_text.specs.Addresses.{address_text}
use Rattle.store_api.specs.History.{in_ranges}
use Rattle.key_paths.specs.declared.hop.Hop.{Hop}
use Rattle.key_paths.specs.declared.hop.Hop.TheVariants.{State}
use Rattle.key_paths.specs.declared.key.Key.{Key}
use Rattle.key_paths.specs.declared.key.Key.TheVariants as names
use Rattle.key_paths.specs.Keys.{key_bytes}
use Rattle.key_paths.specs.Paths.{record_front, record_ranges}
use Rattle.key_paths.proofs.CallerLemmas.{starts-append, key_bytes-node, key_bytes-service, key_bytes-identity, key_bytes-address}
use Rattle.exporter.specs.State.{IsExported}

begins : (k front rest : List ℕ) → k ≡ front ++ rest → starts_with nat_eq k front ≡ true
begins k front rest is = ap (λ (x : List ℕ). starts_with nat_eq x front) is ∙ starts-append front rest

later : (a b : Bool) → b ≡ true → a || b ≡ true
later true b h = refl
later false b h = h

here : (a b : Bool) → a ≡ true → a || b ≡ true
here true b h = refl
here false b h = cc

module _ (cluster k : List ℕ) where
  abbrev begun : Kind → Bool
  begun kind = starts_with nat_eq k (record_front State kind cluster)

  abbrev from_addresses : Bool
  from_addresses = begun Addresses || false

  abbrev from_identities : Bool
  from_identities = begun Identities || from_addresses

  abbrev from_services : Bool
  from_services = begun Services || from_identities

  a_node : begun Nodes ≡ true → IsTrue (in_ranges (record_ranges cluster State) k)
  a_node h = here (begun Nodes) from_services h

  a_service : begun Services ≡ true → IsTrue (in_ranges (record_ranges cluster State) k)
  a_service h = later (begun Nodes) from_services (here (begun Services) from_identities h)

  an_identity : begun Identities ≡ true → IsTrue (in_ranges (record_ranges cluster State) k)
  an_identity h = later (begun Nodes) from_services (later (begun Services) from_identities (here (begun Identities) from_addresses h))

  an_address : begun Addresses ≡ true → IsTrue (in_ranges (record_ranges cluster State) k)
  an_address h = later (begun Nodes) from_services (later (begun Services) from_identities (later (begun Identities) from_addresses (here (begun Addresses) false h)))

-- a record's key stands in the ranges of its cluster's records
pub exported_inside : (cluster : List ℕ) (k : Key) → IsExported cluster k → IsTrue (in_ranges (record_ranges cluster State) (key_bytes k))
exported_inside cluster (names.Node hop of node) is =
    a_node cluster _ (begins (key_bytes (names.Node hop of node)) (record_front State Nodes cluster) node (ap (λ (h : Hop). key_bytes (names.Node h of node)) is.0 ∙ ap (λ (x : List ℕ). key_bytes (names.Node State x node)) is.1 ∙ key_bytes-node State cluster node))
exported_inside cluster (names.Service hop of namespace name) is =
    a_service cluster _ (begins (key_bytes (names.Service hop of namespace name)) (record_front State Services cluster) (namespace ++ 47 ∷ name) (ap (λ (h : Hop). key_bytes (names.Service h of namespace name)) is.0 ∙ ap (λ (x : List ℕ). key_bytes (names.Service State x namespace name)) is.1 ∙ key_bytes-service State cluster namespace name))
exported_inside cluster (names.Identity cached number) is =
    an_identity cluster _ (begins (key_bytes (names.Identity cached number)) (record_front State Identities cluster) (decimal number) (ap (λ c. key_bytes (names.Identity c number)) is ∙ key_bytes-identity cluster number))
exported_inside cluster (names.Address cached ip) is =
    an_address cluster _ (begins (key_bytes (names.Address cached ip)) (record_front State Addresses cluster) (address_text ip) (ap (λ c. key_bytes (names.Address c ip)) is ∙ key_bytes-address cluster ip))
exported_inside cluster (names.Config of) is = absurd is
exported_inside cluster (names.Synced of hop kind) is = absurd is
exported_inside cluster (names.Cut of) is = absurd is
