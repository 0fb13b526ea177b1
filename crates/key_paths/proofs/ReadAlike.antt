-- A record's key reads alike at both hops.
use Rattle.std.proofs.Common.{◌≡◌, ◌==◌, ℕ, List, [], ◌∷◌, ◌++◌, length, Option, Some, None, Result, Ok, Err, codes, refl, sym, ap, ◌∙◌, append_assoc}
use Rattle.std.proofs.lemmas.List.Splits.{slice_split_at}
use Rattle.mesh_text.specs.declared.ip.Ip.{Ip}
use Rattle.mesh_text.specs.declared.kind.Kind.{Kind}
use Rattle.mesh_text.specs.declared.kind.Kind.TheVariants.{Nodes, Services, Identities, Addresses}
use Rattle.mesh_text.specs.Addresses.{split_at}
use Rattle.key_paths.specs.declared.hop.Hop.{Hop}
use Rattle.key_paths.specs.declared.hop.Hop.TheVariants.{State, Cache}
use Rattle.key_paths.specs.declared.front.Front.TheVariants.{Records}
use Rattle.key_paths.specs.declared.front.Front.{Front}
use Rattle.key_paths.specs.declared.key.Key.TheVariants as key
use Rattle.key_paths.specs.declared.fault.KeyFault.{KeyFault}
use Rattle.key_paths.specs.declared.fault.KeyFault.TheVariants as fault
use Rattle.key_paths.specs.Beginnings.{beginning}
use Rattle.key_paths.specs.Paths.{record_front}
use Rattle.key_paths.specs.Keys.{IsClusterName}
use Rattle.key_paths.specs.Reading.{Place, placed, ◌>>=◌, or_fault, cluster_at, name_at, names_at, small_number_of, canonical_address_of, node_of_parts, service_of_parts, identity_of_parts, address_of_parts, key_of_parts, key_of}
use Rattle.key_paths.specs.Mapping.{moved}
use Rattle.key_paths.specs.Alike.{hopless}
use Rattle.key_paths.specs.Laws.{ExchangesFront}
use Rattle.key_paths.proofs.FrontLemmas.{front_at-beginning, behind-beginning}
use Rattle.key_paths.proofs.Moves.{moved-sound}
use Rattle.key_paths.proofs.Complete.{slashless-cluster_name, cluster_at-name}

-- parts that are read in two ways with one outcome

by_node : (a b : Result (List ℕ) KeyFault) → hopless (a >>= λ c. b >>= λ n. Ok (key.Node Cache c n)) ≡ hopless (a >>= λ c. b >>= λ n. Ok (key.Node State c n))
by_node (Ok c) (Ok n) = refl
by_node (Ok c) (Err e) = refl
by_node (Err e) b = refl

nodes-alike : (parts : List Place) → hopless (node_of_parts Cache parts) ≡ hopless (node_of_parts State parts)
nodes-alike [] = refl
nodes-alike (a ∷ []) = refl
nodes-alike (a ∷ b ∷ []) = by_node (cluster_at a) (name_at b)
nodes-alike (a ∷ b ∷ d ∷ more) = refl

by_service : (a : Result (List ℕ) KeyFault) (b : Result (List ℕ × List ℕ) KeyFault) → hopless (a >>= λ c. b >>= λ n. Ok (key.Service Cache c n.0 n.1)) ≡ hopless (a >>= λ c. b >>= λ n. Ok (key.Service State c n.0 n.1))
by_service (Ok c) (Ok n) = refl
by_service (Ok c) (Err e) = refl
by_service (Err e) b = refl

services-alike : (parts : List Place) → hopless (service_of_parts Cache parts) ≡ hopless (service_of_parts State parts)
services-alike [] = refl
services-alike (a ∷ []) = refl
services-alike (a ∷ b ∷ []) = refl
services-alike (a ∷ b ∷ d ∷ []) = by_service (cluster_at a) (names_at b d)
services-alike (a ∷ b ∷ d ∷ e ∷ more) = refl

by_number : (o : Option ℕ) (cluster : List ℕ) (at place : ℕ) → hopless (or_fault o (fault.Number at) >>= λ n. Ok (key.Identity (Some cluster) n)) ≡ hopless (or_fault o (fault.Number place) >>= λ n. Ok (key.Identity None n))
by_number (Some n) cluster at place = refl
by_number None cluster at place = refl

identities-alike : (at place : ℕ) (cluster : List ℕ) (texts : List (List ℕ)) → IsClusterName cluster → hopless (identity_of_parts Cache (placed at (cluster ∷ codes "id" ∷ texts))) ≡ hopless (identity_of_parts State (placed place texts))
identities-alike at place cluster [] name = refl
identities-alike at place cluster (text ∷ []) name = rw (cluster_at-name at cluster name) (by_number (small_number_of text) cluster _ _)
identities-alike at place cluster (a ∷ b ∷ more) name = refl

by_address : (o : Option Ip) (cluster : List ℕ) (at place : ℕ) → hopless (or_fault o (fault.Address at) >>= λ ip. Ok (key.Address (Some cluster) ip)) ≡ hopless (or_fault o (fault.Address place) >>= λ ip. Ok (key.Address None ip))
by_address (Some ip) cluster at place = refl
by_address None cluster at place = refl

addresses-alike : (at place : ℕ) (cluster : List ℕ) (texts : List (List ℕ)) → IsClusterName cluster → hopless (address_of_parts Cache (placed at (cluster ∷ texts))) ≡ hopless (address_of_parts State (placed place texts))
addresses-alike at place cluster [] name = refl
addresses-alike at place cluster (text ∷ []) name = rw (cluster_at-name at cluster name) (by_address (canonical_address_of text) cluster _ _)
addresses-alike at place cluster (a ∷ b ∷ more) name = refl

-- what is read behind a beginning
key_of-behind : (front : Front) (tail : List ℕ) → key_of (beginning front ++ tail) ≡ key_of_parts front (placed (length (beginning front)) (split_at 47 tail))
unfolding key_of
key_of-behind front tail = rw (front_at-beginning front tail, behind-beginning front tail) refl

-- what is read behind a beginning and a cluster
key_of-owned : (front : Front) (cluster end rest : List ℕ) → IsClusterName cluster → key_of ((beginning front ++ (cluster ++ 47 ∷ end)) ++ rest) ≡ key_of_parts front (placed (length (beginning front)) (cluster ∷ split_at 47 (end ++ rest)))
key_of-owned front cluster end rest name =
    ap key_of (append_assoc (beginning front) (cluster ++ 47 ∷ end) rest ∙ ap (λ tail. beginning front ++ tail) (append_assoc cluster (47 ∷ end) rest))
    ∙ key_of-behind front (cluster ++ 47 ∷ (end ++ rest))
    ∙ ap (λ texts. key_of_parts front (placed (length (beginning front)) texts)) (slice_split_at (λ c. c == 47) cluster 47 (end ++ rest) (slashless-cluster_name cluster name) refl)

identity_parts : (rest : List ℕ) → split_at 47 (codes "id/" ++ rest) ≡ codes "id" ∷ split_at 47 rest
identity_parts rest = refl

-- the cached key of a record is read as its key in an exporter's store
cache-alike : (kind : Kind) (cluster rest : List ℕ) → IsClusterName cluster → hopless (key_of (record_front Cache kind cluster ++ rest)) ≡ hopless (key_of (record_front State kind cluster ++ rest))
unfolding record_front beginning
cache-alike Nodes cluster rest name =
    ap hopless (key_of-owned (Records Cache Nodes) cluster [] rest name) ∙ nodes-alike (placed 22 (cluster ∷ split_at 47 rest))
    ∙ sym (ap hopless (key_of-owned (Records State Nodes) cluster [] rest name))
cache-alike Services cluster rest name =
    ap hopless (key_of-owned (Records Cache Services) cluster [] rest name) ∙ services-alike (placed 25 (cluster ∷ split_at 47 rest))
    ∙ sym (ap hopless (key_of-owned (Records State Services) cluster [] rest name))
cache-alike Identities cluster rest name =
    ap hopless (key_of-owned (Records Cache Identities) cluster (codes "id/") rest name) ∙ identities-alike 27 30 cluster (split_at 47 rest) name
    ∙ sym (ap hopless (key_of-behind (Records State Identities) rest))
cache-alike Addresses cluster rest name =
    ap hopless (key_of-owned (Records Cache Addresses) cluster [] rest name) ∙ addresses-alike 19 27 cluster (split_at 47 rest) name
    ∙ sym (ap hopless (key_of-behind (Records State Addresses) rest))

at_hops : (from to : Hop) (kind : Kind) (cluster rest : List ℕ) → IsClusterName cluster → hopless (key_of (record_front to kind cluster ++ rest)) ≡ hopless (key_of (record_front from kind cluster ++ rest))
at_hops State State kind cluster rest name = refl
at_hops State Cache kind cluster rest name = cache-alike kind cluster rest name
at_hops Cache State kind cluster rest name = sym (cache-alike kind cluster rest name)
at_hops Cache Cache kind cluster rest name = refl

exchanged-alike : (from to : Hop) (cluster bytes image : List ℕ) → IsClusterName cluster → ExchangesFront from to cluster bytes image → hopless (key_of image) ≡ hopless (key_of bytes)
exchanged-alike from to cluster bytes image name (kind, rest, is_bytes, is_image) = rw (is_bytes, is_image) (at_hops from to kind cluster rest name)

-- a key and its image are read alike
pub moved-alike : (from to : Hop) (cluster bytes image : List ℕ) → IsClusterName cluster → moved from to cluster bytes ≡ Some image → hopless (key_of image) ≡ hopless (key_of bytes)
moved-alike from to cluster bytes image name h =
    exchanged-alike from to cluster bytes image name (moved-sound from to cluster bytes image h)
