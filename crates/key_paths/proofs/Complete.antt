-- The bytes of a key are read as the key.
use Rattle.std.proofs.Common.{◌≡◌, inl, inr, ℕ, ◌<◌, ◌^◌, ◌==◌, Bool, true, false, List, [], ◌∷◌, length, All, Some, None, Ok, codes, decimal, refl, ap, ◌∙◌, arith, ne_eqb, lt-ltb, lit<}
use Rattle.std.specs.List.{join_with_byte, list_all, AllByRecursion}
use Rattle.std.proofs.lemmas.Bool.{and_parts}
use Rattle.std.specs.Char.{is_ascii_digit, is_ascii_lowercase}
use Rattle.std.proofs.lemmas.Slice.Eq.{bytes_eq-Decides}
use Rattle.std.proofs.lemmas.List.Elements.{All-weaker, All-from_recursion}
use Rattle.mesh_text.proofs.Decimals.{all_digits-from_decimal}
use Rattle.key_paths.proofs.Sound.{tested-Some}
use Rattle.std.proofs.lemmas.List.Splits.{slice_split_none, slice_split_at}
use Rattle.mesh_text.specs.declared.ip.Ip.{Ip}
use Rattle.mesh_text.specs.declared.kind.Kind.{Kind}
use Rattle.mesh_text.specs.declared.kind.Kind.TheVariants.{Nodes, Services, Identities, Addresses}
use Rattle.mesh_text.specs.Names.{is_cluster_byte, is_part_byte}
use Rattle.mesh_text.specs.Numbers.{number_of}
use Rattle.mesh_text.specs.Addresses.{address_text, split_at}
use Rattle.mesh_text.specs.Laws.{IsIp}
use Rattle.mesh_text.proofs.CallerLemmas.{IsAddressByte, address_text-bytes, cluster_name-bytes, part_name-bytes, number_of-decimal, address_of-address_text}
use Rattle.key_paths.specs.declared.hop.Hop.{Hop}
use Rattle.key_paths.specs.declared.hop.Hop.TheVariants.{State, Cache}
use Rattle.key_paths.specs.declared.key.Key.{Key}
use Rattle.key_paths.specs.declared.key.Key.TheVariants as a_key
use Rattle.key_paths.specs.Beginnings.{beginning}
use Rattle.key_paths.specs.Paths.{hop_word, kind_word}
use Rattle.key_paths.specs.Keys.{front_of, parts_of, key_bytes, IsKey, IsKeyOf, IsClusterName, IsPartName}
use Rattle.key_paths.specs.Reading.{placed, cluster_at, name_at, number_at, ip_at, path_of, key_of_parts, key_of}
use Rattle.key_paths.proofs.FrontLemmas.{front_at-beginning, behind-beginning}

-- no byte of the text is a `/`
abbrev pub IsSlashless : List ℕ → Type 0
IsSlashless text = All (λ c. (c == 47) ≡ false) text

slashless-from_bytes : (passes : ℕ → Bool) → passes 47 ≡ false → (text : List ℕ) → list_all passes text ≡ true → IsSlashless text
slashless-from_bytes passes slash text h = All-from_recursion (λ c. (c == 47) ≡ false) text (by_bytes text h)
  where
    by_bytes : (text : List ℕ) → list_all passes text ≡ true → AllByRecursion (λ c. (c == 47) ≡ false) text
    by_bytes [] h = tt
    by_bytes (c ∷ cs) h =
        let (good, more) = and_parts (passes c) (list_all passes cs) h in
        (ne_eqb c 47 (λ same. let bad : passes c ≡ false = rw same slash in absurd cc), by_bytes cs more)

pub slashless-cluster_name : (text : List ℕ) → IsClusterName text → IsSlashless text
slashless-cluster_name text h = slashless-from_bytes is_cluster_byte refl text (cluster_name-bytes text h)

pub slashless-part_name : (text : List ℕ) → IsPartName text → IsSlashless text
slashless-part_name text h = slashless-from_bytes is_part_byte refl text (part_name-bytes text h)

address_byte : (c : ℕ) → IsAddressByte c → (c == 47) ≡ false
address_byte c (inl dot) = ne_eqb c 47 (omega arith)
address_byte c (inr (inl digit)) = ne_eqb c 47 (λ same. absurd (omega arith))
address_byte c (inr (inr letter)) = ne_eqb c 47 (λ same. absurd (omega arith))

slashless-address : (ip : Ip) → IsSlashless (address_text ip)
slashless-address ip = All-weaker IsAddressByte (λ c. (c == 47) ≡ false) address_byte (address_text ip) (address_text-bytes ip)

slashless-decimal : (n : ℕ) → n < 2 ^ 32 → IsSlashless (decimal n)
unfolding number_of
slashless-decimal n h =
    let (canonical, value) = tested-Some _ _ _ (number_of-decimal n (omega arith)) in
    let (digits, fits) = and_parts _ _ canonical in
    slashless-from_bytes is_ascii_digit refl (decimal n) (all_digits-from_decimal (decimal n) digits)

slashless-hop : (hop : Hop) → IsSlashless (hop_word hop)
slashless-hop State = slashless-from_bytes is_ascii_lowercase refl (hop_word State) refl
slashless-hop Cache = slashless-from_bytes is_ascii_lowercase refl (hop_word Cache) refl

slashless-kind : (kind : Kind) → IsSlashless (kind_word kind)
slashless-kind Nodes = slashless-from_bytes is_ascii_lowercase refl (kind_word Nodes) refl
slashless-kind Services = slashless-from_bytes is_ascii_lowercase refl (kind_word Services) refl
slashless-kind Identities = slashless-from_bytes is_ascii_lowercase refl (kind_word Identities) refl
slashless-kind Addresses = slashless-from_bytes is_ascii_lowercase refl (kind_word Addresses) refl

-- each part is slashless
abbrev pub AreSlashless : List (List ℕ) → Type 0
AreSlashless parts = AllByRecursion IsSlashless parts

parts-slashless : (key : Key) → IsKey key → AreSlashless (parts_of key)
parts-slashless (a_key.Config cluster) c = (slashless-cluster_name cluster c, tt)
parts-slashless (a_key.Synced cluster hop kind) c = (
  slashless-cluster_name cluster c,
  (
    slashless-from_bytes is_ascii_lowercase refl (codes "cilium") refl,
    (slashless-hop hop, (slashless-kind kind, (slashless-from_bytes is_part_byte refl (codes "v1") refl, tt))),
  ),
)
parts-slashless (a_key.Node hop cluster node) (c, n) = (slashless-cluster_name cluster c, (slashless-part_name node n, tt))
parts-slashless (a_key.Service hop cluster namespace name) (c, s, n) =
    (slashless-cluster_name cluster c, (slashless-part_name namespace s, (slashless-part_name name n, tt)))
parts-slashless (a_key.Identity None number) (c, n) = (slashless-decimal number n, tt)
parts-slashless (a_key.Identity (Some cluster) number) (c, n) = (
  slashless-cluster_name cluster c,
  (slashless-from_bytes is_ascii_lowercase refl (codes "id") refl, (slashless-decimal number n, tt)),
)
parts-slashless (a_key.Address None ip) (c, i) = (slashless-address ip, tt)
parts-slashless (a_key.Address (Some cluster) ip) (c, i) = (slashless-cluster_name cluster c, (slashless-address ip, tt))
parts-slashless (a_key.Cut cluster) c = (slashless-cluster_name cluster c, tt)

-- joined parts are split again
pub split_at-joined : (first : List ℕ) (more : List (List ℕ)) → AreSlashless (first ∷ more) → split_at 47 (join_with_byte 47 (first ∷ more)) ≡ first ∷ more
split_at-joined first [] (slashless, rest) = slice_split_none (λ c. c == 47) first slashless
split_at-joined first (next ∷ more) (slashless, rest) =
    slice_split_at (λ c. c == 47) first 47 (join_with_byte 47 (next ∷ more)) slashless refl
    ∙ ap (λ parts. first ∷ parts) (split_at-joined next more rest)

parts-split : (key : Key) → IsKey key → split_at 47 (join_with_byte 47 (parts_of key)) ≡ parts_of key
parts-split key h = some_parts (parts_of key) (has_parts key) (parts-slashless key h)
  where
    some_parts : (parts : List (List ℕ)) → 0 < length parts → AreSlashless parts → split_at 47 (join_with_byte 47 parts) ≡ parts
    some_parts [] some slashless = absurd (omega arith)
    some_parts (first ∷ more) some slashless = split_at-joined first more slashless

    has_parts : (key : Key) → 0 < length (parts_of key)
    has_parts (a_key.Config cluster) = lit< tt
    has_parts (a_key.Synced cluster hop kind) = lit< tt
    has_parts (a_key.Node hop cluster node) = lit< tt
    has_parts (a_key.Service hop cluster namespace name) = lit< tt
    has_parts (a_key.Identity None number) = lit< tt
    has_parts (a_key.Identity (Some cluster) number) = lit< tt
    has_parts (a_key.Address None ip) = lit< tt
    has_parts (a_key.Address (Some cluster) ip) = lit< tt
    has_parts (a_key.Cut cluster) = lit< tt

-- parts of their forms are read

pub cluster_at-name : (at : ℕ) (text : List ℕ) → IsClusterName text → cluster_at (record { at = at; text = text }) ≡ Ok text
cluster_at-name at text h = rw h refl

pub name_at-name : (at : ℕ) (text : List ℕ) → IsPartName text → name_at (record { at = at; text = text }) ≡ Ok text
name_at-name at text h = rw h refl

pub number_at-decimal : (at n : ℕ) → n < 2 ^ 32 → number_at (record { at = at; text = decimal n }) ≡ Ok n
number_at-decimal at n h = rw (number_of-decimal n (omega arith), lt-ltb n (2 ^ 32) h) refl

pub ip_at-text : (at : ℕ) (ip : Ip) → IsIp ip → ip_at (record { at = at; text = address_text ip }) ≡ Ok ip
ip_at-text at ip h = rw (address_of-address_text ip h, (bytes_eq-Decides (address_text ip) (address_text ip)).1 refl) refl

path_of-words : (hop : Hop) (kind : Kind) → path_of (codes "cilium") (hop_word hop) (kind_word kind) (codes "v1") ≡ Some (hop, kind)
path_of-words State Nodes = refl
path_of-words State Services = refl
path_of-words State Identities = refl
path_of-words State Addresses = refl
path_of-words Cache Nodes = refl
path_of-words Cache Services = refl
path_of-words Cache Identities = refl
path_of-words Cache Addresses = refl

key_of_parts-key : (at : ℕ) (key : Key) → IsKey key → key_of_parts (front_of key) (placed at (parts_of key)) ≡ Ok key
key_of_parts-key at (a_key.Config cluster) c = rw (cluster_at-name at cluster c) refl
key_of_parts-key at (a_key.Synced cluster hop kind) c = rw (path_of-words hop kind, cluster_at-name at cluster c) refl
key_of_parts-key at (a_key.Node hop cluster node) (c, n) = rw (cluster_at-name at cluster c, name_at-name _ node n) refl
key_of_parts-key at (a_key.Service hop cluster namespace name) (c, s, n) =
    rw (cluster_at-name at cluster c, name_at-name _ namespace s, name_at-name _ name n) refl
key_of_parts-key at (a_key.Identity None number) (c, n) = rw (number_at-decimal at number n) refl
key_of_parts-key at (a_key.Identity (Some cluster) number) (c, n) =
    rw (cluster_at-name at cluster c, number_at-decimal _ number n) refl
key_of_parts-key at (a_key.Address None ip) (c, i) = rw (ip_at-text at ip i) refl
key_of_parts-key at (a_key.Address (Some cluster) ip) (c, i) = rw (cluster_at-name at cluster c, ip_at-text _ ip i) refl
key_of_parts-key at (a_key.Cut cluster) c = rw (cluster_at-name at cluster c) refl

-- the bytes of a key are read as the key
pub key_of-key_bytes : (key : Key) → IsKey key → key_of (key_bytes key) ≡ Ok key
unfolding key_of key_bytes
key_of-key_bytes key h =
    let front = front_of key in
    let rest = join_with_byte 47 (parts_of key) in
    rw (front_at-beginning front rest, behind-beginning front rest, parts-split key h)
    (key_of_parts-key (length (beginning front)) key h)

-- the bytes of a key are read as the key alone
pub key_of-complete : (bytes : List ℕ) (key : Key) → IsKeyOf key bytes → key_of bytes ≡ Ok key
key_of-complete bytes key (valid, same) = rw same (key_of-key_bytes key valid)
