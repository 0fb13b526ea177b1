-- The mapping between the hops.
use Rattle.std.proofs.Common.{◌≡◌, ℕ, Bool, true, false, cond, ◌||◌, nat_eq, List, [], ◌∷◌, ◌++◌, length, drop, map, Some, is_some, refl, sym, ap, ◌∙◌}
use Rattle.std.specs.List.{starts_with}
use Rattle.std.proofs.Math.Seq.{drop-append_seam}
use Rattle.mesh_text.specs.declared.kind.Kind.{Kind}
use Rattle.mesh_text.specs.declared.kind.Kind.TheVariants.{Nodes, Services, Identities, Addresses}
use Rattle.store_api.specs.History.{in_ranges}
use Rattle.key_paths.specs.declared.hop.Hop.{Hop}
use Rattle.key_paths.specs.declared.hop.Hop.TheVariants.{State, Cache}
use Rattle.key_paths.specs.Beginnings.{beginning}
use Rattle.key_paths.specs.Paths.{kinds, record_front, record_range, record_ranges}
use Rattle.key_paths.specs.Mapping.{moved_among, moved}
use Rattle.key_paths.specs.Laws.{ExchangesFront}
use Rattle.key_paths.proofs.FrontLemmas.{starts-sound, starts-append}

-- bytes behind the front of a kind are moved behind that of the same kind
pub moved-front : (from to : Hop) (kind : Kind) (cluster rest : List ℕ) → moved from to cluster (record_front from kind cluster ++ rest) ≡ Some (record_front to kind cluster ++ rest)
unfolding moved record_front beginning
moved-front State to Nodes cluster rest =
    rw (starts-append (record_front State Nodes cluster) rest, drop-append_seam (record_front State Nodes cluster) rest) refl
moved-front State to Services cluster rest =
    rw (starts-append (record_front State Services cluster) rest, drop-append_seam (record_front State Services cluster) rest) refl
moved-front State to Identities cluster rest = refl
moved-front State to Addresses cluster rest = refl
moved-front Cache to Nodes cluster rest =
    rw (starts-append (record_front Cache Nodes cluster) rest, drop-append_seam (record_front Cache Nodes cluster) rest) refl
moved-front Cache to Services cluster rest =
    rw (starts-append (record_front Cache Services cluster) rest, drop-append_seam (record_front Cache Services cluster) rest) refl
moved-front Cache to Identities cluster rest =
    rw (starts-append (record_front Cache Identities cluster) rest, drop-append_seam (record_front Cache Identities cluster) rest) refl
moved-front Cache to Addresses cluster rest =
    rw (starts-append (record_front Cache Addresses cluster) rest, drop-append_seam (record_front Cache Addresses cluster) rest) refl

moved_among-sound : (among : List Kind) (from to : Hop) (cluster bytes image : List ℕ) → moved_among among from to cluster bytes ≡ Some image → ExchangesFront from to cluster bytes image
moved_among-sound [] from to cluster bytes image h = absurd cc
moved_among-sound (kind ∷ more) from to cluster bytes image h =
    by_front (starts_with nat_eq bytes (record_front from kind cluster)) refl h (moved_among-sound more from to cluster bytes image)
  where
    by_front : (starts : Bool) → starts_with nat_eq bytes (record_front from kind cluster) ≡ starts
        → cond starts (Some (record_front to kind cluster ++ drop (length (record_front from kind cluster)) bytes)) (moved_among more from to cluster bytes) ≡ Some image
        → (moved_among more from to cluster bytes ≡ Some image → ExchangesFront from to cluster bytes image) → ExchangesFront from to cluster bytes image
    by_front true e h later =
        (kind, drop (length (record_front from kind cluster)) bytes, starts-sound bytes (record_front from kind cluster) e, sym cc)
    by_front false e h later = later h

pub moved-sound : (from to : Hop) (cluster bytes image : List ℕ) → moved from to cluster bytes ≡ Some image → ExchangesFront from to cluster bytes image
unfolding moved
moved-sound from to cluster bytes image h = moved_among-sound kinds from to cluster bytes image h

pub moved-complete : (from to : Hop) (cluster bytes image : List ℕ) → ExchangesFront from to cluster bytes image → moved from to cluster bytes ≡ Some image
moved-complete from to cluster bytes image (kind, rest, is_bytes, is_image) = rw (is_bytes, is_image) (moved-front from to kind cluster rest)

pub moved-back : (from to : Hop) (cluster bytes image : List ℕ) → moved from to cluster bytes ≡ Some image → moved to from cluster image ≡ Some bytes
moved-back from to cluster bytes image h =
    let (kind, rest, is_bytes, is_image) = moved-sound from to cluster bytes image h in
    moved-complete to from cluster image bytes (kind, rest, is_image, is_bytes)

-- a key has an image exactly where it is in the range of one of the four kinds
is_some-among : (among : List Kind) (from to : Hop) (cluster bytes : List ℕ) → is_some (moved_among among from to cluster bytes) ≡ in_ranges (map (record_range from cluster) among) bytes
is_some-among [] from to cluster bytes = refl
is_some-among (kind ∷ more) from to cluster bytes =
    by_front (starts_with nat_eq bytes (record_front from kind cluster)) (is_some-among more from to cluster bytes)
  where
    by_front : (starts : Bool) → is_some (moved_among more from to cluster bytes) ≡ in_ranges (map (record_range from cluster) more) bytes
        → is_some (cond starts (Some (record_front to kind cluster ++ drop (length (record_front from kind cluster)) bytes)) (moved_among more from to cluster bytes)) ≡ (starts || in_ranges (map (record_range from cluster) more) bytes)
    by_front true later = refl
    by_front false later = later

pub is_some-moved : (from to : Hop) (cluster bytes : List ℕ) → is_some (moved from to cluster bytes) ≡ in_ranges (record_ranges cluster from) bytes
unfolding moved
is_some-moved from to cluster bytes = is_some-among kinds from to cluster bytes

-- what has an image back is in the ranges
pub moved-in_record_ranges : (from to : Hop) (cluster bytes image : List ℕ) → moved from to cluster bytes ≡ Some image → in_ranges (record_ranges cluster to) image ≡ true
moved-in_record_ranges from to cluster bytes image h =
    sym (is_some-moved to from cluster image) ∙ ap is_some (moved-back from to cluster bytes image h)
