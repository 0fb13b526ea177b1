-- Whose ranges a key lies in.
use Rattle.std.proofs.Common.{◌≡◌, ℕ, Bool, true, false, ◌||◌, ◌==◌, nat_eq, List, [], ◌∷◌, ◌++◌, length, drop, Some, Ok, codes, refl, sym, ap, ◌∙◌, subst, append_assoc}
use Rattle.std.specs.List.{starts_with, AllByRecursion}
use Rattle.std.proofs.lemmas.Slice.Eq.{bytes_eq-Decides}
use Rattle.std.proofs.lemmas.Map.Text.{is_eq-slice_cmp}
use Rattle.std.proofs.lemmas.List.Splits.{slice_split_none, slice_split_at}
use Rattle.mesh_text.specs.declared.kind.Kind.{Kind}
use Rattle.mesh_text.specs.declared.kind.Kind.TheVariants.{Nodes, Services, Identities, Addresses}
use Rattle.mesh_text.specs.Addresses.{split_at}
use Rattle.store_api.specs.declared.change.Range.{Range}
use Rattle.store_api.specs.declared.change.Range.TheVariants.{One, Prefix}
use Rattle.store_api.specs.History.{in_range, in_ranges}
use Rattle.key_paths.specs.declared.hop.Hop.{Hop}
use Rattle.key_paths.specs.declared.hop.Hop.TheVariants.{State, Cache}
use Rattle.key_paths.specs.declared.front.Front.{Front}
use Rattle.key_paths.specs.declared.front.Front.TheVariants.{Configs, Marks, Records, Cuts}
use Rattle.key_paths.specs.declared.key.Key.{Key}
use Rattle.key_paths.specs.Beginnings.{beginning, front_at, front_kind, front_hop}
use Rattle.key_paths.specs.Paths.{record_front, ranges_of, own_ranges}
use Rattle.key_paths.specs.Keys.{IsClusterName, key_bytes, front_of, kind_of, hop_of}
use Rattle.key_paths.specs.Reading.{key_of}
use Rattle.key_paths.proofs.FrontLemmas.{starts-sound, front_at-beginning, behind-beginning}
use Rattle.key_paths.proofs.Sound.{key_of-sound}
use Rattle.key_paths.proofs.Complete.{IsSlashless, slashless-cluster_name}

-- the first part behind one of the beginnings is this
record IsOwned (owner bytes : List ℕ) : Type 0 where
  front : Front
  more : List (List ℕ)
  begins : front_at bytes ≡ Some front
  parts : split_at 47 (drop (length (beginning front)) bytes) ≡ owner ∷ more

one_owner : (a b bytes : List ℕ) → IsOwned a bytes → IsOwned b bytes → a ≡ b
one_owner a b bytes of_a of_b =
    let same : of_a.front ≡ of_b.front = (let e = sym of_a.begins ∙ of_b.begins in cc) in
    let split = subst (λ front. split_at 47 (drop (length (beginning front)) bytes) ≡ a ∷ of_a.more) same of_a.parts in
    let e = sym split ∙ of_b.parts in cc

-- all that stands behind the beginning is the owner
owned-alone : (front : Front) (owner bytes : List ℕ) → IsSlashless owner → bytes ≡ beginning front ++ owner → IsOwned owner bytes
owned-alone front owner bytes slashless is = record {
  front = front;
  more = [];
  begins = rw is (front_at-beginning front owner);
  parts = rw (is, behind-beginning front owner) (slice_split_none (λ c. c == 47) owner slashless);
}

-- a `/` follows the owner
owned-before : (front : Front) (owner bytes rest : List ℕ) → IsSlashless owner → bytes ≡ beginning front ++ (owner ++ 47 ∷ rest) → IsOwned owner bytes
owned-before front owner bytes rest slashless is = record {
  front = front;
  more = split_at 47 rest;
  begins = rw is (front_at-beginning front (owner ++ 47 ∷ rest));
  parts = rw (is, behind-beginning front (owner ++ 47 ∷ rest)) (slice_split_at (λ c. c == 47) owner 47 rest slashless refl);
}

-- the keys of the range are the owner's
abbrev Owns : List ℕ → Range → Type 0
Owns owner range = (bytes : List ℕ) → in_range bytes range ≡ true → IsOwned owner bytes

owns-one : (front : Front) (owner : List ℕ) → IsSlashless owner → Owns owner (One (beginning front ++ owner))
owns-one front owner slashless bytes h =
    owned-alone front owner bytes slashless ((bytes_eq-Decides bytes (beginning front ++ owner)).0 (sym (is_eq-slice_cmp bytes (beginning front ++ owner)) ∙ h))

owns-front : (front : Front) (owner end : List ℕ) → IsSlashless owner → Owns owner (Prefix (beginning front ++ (owner ++ 47 ∷ end)))
owns-front front owner end slashless bytes h =
    let whole = beginning front ++ (owner ++ 47 ∷ end) in
    let rest = drop (length whole) bytes in
    owned-before front owner bytes (end ++ rest) slashless
    (starts-sound bytes whole h ∙ append_assoc (beginning front) (owner ++ 47 ∷ end) rest ∙ ap (λ tail. beginning front ++ tail) (append_assoc owner (47 ∷ end) rest))

-- what lies in the ranges lies in one of them
owned-in_ranges : (owner bytes : List ℕ) (ranges : List Range) → AllByRecursion (Owns owner) ranges → in_ranges ranges bytes ≡ true → IsOwned owner bytes
owned-in_ranges owner bytes [] owns h = absurd cc
owned-in_ranges owner bytes (range ∷ more) (first, others) h =
    by_first (in_range bytes range) refl h (owned-in_ranges owner bytes more others)
  where
    by_first : (is : Bool) → in_range bytes range ≡ is → (is || in_ranges more bytes) ≡ true → (in_ranges more bytes ≡ true → IsOwned owner bytes) → IsOwned owner bytes
    by_first true e h later = first bytes e
    by_first false e h later = later h

own_ranges-owned : (owner : List ℕ) (hop : Hop) → IsSlashless owner → AllByRecursion (Owns owner) (own_ranges owner hop)
unfolding own_ranges ranges_of record_front
own_ranges-owned owner State slashless = (
  owns-one Configs owner slashless,
  (
    owns-front Marks owner [] slashless,
    (owns-front (Records State Nodes) owner [] slashless, (owns-front (Records State Services) owner [] slashless, tt)),
  ),
)
own_ranges-owned owner Cache slashless = (
  owns-one Configs owner slashless,
  (
    owns-front Marks owner [] slashless,
    (
      owns-front (Records Cache Nodes) owner [] slashless,
      (
        owns-front (Records Cache Services) owner [] slashless,
        (
          owns-front (Records Cache Identities) owner (codes "id/") slashless,
          (
            owns-front (Records Cache Addresses) owner [] slashless,
            (owns-one Cuts owner slashless, tt),
          ),
        ),
      ),
    ),
  ),
)

-- no key lies in the own ranges of two clusters
pub owned_by_one : (a b : List ℕ) (hop_a hop_b : Hop) (bytes : List ℕ) → IsClusterName a → IsClusterName b → in_ranges (own_ranges a hop_a) bytes ≡ true → in_ranges (own_ranges b hop_b) bytes ≡ true → a ≡ b
owned_by_one a b hop_a hop_b bytes name_a name_b of_a of_b =
    one_owner a b bytes
    (owned-in_ranges a bytes (own_ranges a hop_a) (own_ranges-owned a hop_a (slashless-cluster_name a name_a)) of_a)
    (owned-in_ranges b bytes (own_ranges b hop_b) (own_ranges-owned b hop_b (slashless-cluster_name b name_b)) of_b)

-- bytes behind a cluster's front of records have that kind's beginning
pub front_at-record_front : (hop : Hop) (kind : Kind) (cluster rest : List ℕ) → front_at (record_front hop kind cluster ++ rest) ≡ Some (Records hop kind)
unfolding front_at beginning record_front
front_at-record_front State Nodes cluster rest = refl
front_at-record_front State Services cluster rest = refl
front_at-record_front State Identities cluster rest = refl
front_at-record_front State Addresses cluster rest = refl
front_at-record_front Cache Nodes cluster rest = refl
front_at-record_front Cache Services cluster rest = refl
front_at-record_front Cache Identities cluster rest = refl
front_at-record_front Cache Addresses cluster rest = refl

front_at-range : (hop : Hop) (kind : Kind) (cluster bytes : List ℕ) → starts_with nat_eq bytes (record_front hop kind cluster) ≡ true → front_at bytes ≡ Some (Records hop kind)
front_at-range hop kind cluster bytes h =
    rw (starts-sound bytes (record_front hop kind cluster) h) (front_at-record_front hop kind cluster (drop (length (record_front hop kind cluster)) bytes))

front_at-key : (bytes : List ℕ) (key : Key) → key_of bytes ≡ Ok key → front_at bytes ≡ Some (front_of key)
unfolding key_bytes
front_at-key bytes key h = rw (key_of-sound bytes key h).1 (front_at-beginning (front_of key) _)

-- a key in the range of a cluster's records is of the range's kind and hop
pub front_of-range : (hop : Hop) (kind : Kind) (cluster bytes : List ℕ) (key : Key) → starts_with nat_eq bytes (record_front hop kind cluster) ≡ true → key_of bytes ≡ Ok key → front_of key ≡ Records hop kind
front_of-range hop kind cluster bytes key starts read =
    let e = sym (front_at-key bytes key read) ∙ front_at-range hop kind cluster bytes starts in cc

pub kind_of-range : (hop : Hop) (kind : Kind) (cluster bytes : List ℕ) (key : Key) → starts_with nat_eq bytes (record_front hop kind cluster) ≡ true → key_of bytes ≡ Ok key → (kind_of key ≡ Some kind) × (hop_of key ≡ Some hop)
kind_of-range hop kind cluster bytes key starts read =
    let e = front_of-range hop kind cluster bytes key starts read in (ap front_kind e, ap front_hop e)
