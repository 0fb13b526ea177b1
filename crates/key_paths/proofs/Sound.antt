-- What is read as a key is the bytes of that key.
use Rattle.std.proofs.Common.{◌≡◌, ℕ, ◌+◌, ◌<◌, ◌^◌, Bool, true, false, nat_lt, List, [], ◌∷◌, length, drop, map, Option, Some, None, Result, Ok, Err, ◌&&◌, cond, codes, decimal, bytes_eq, refl, sym, ap, ◌∙◌, subst}
use Rattle.std.specs.Option.{option_and_then, option_map}
use Rattle.std.proofs.lemmas.Bool.{ltb-true}
use Rattle.std.proofs.lemmas.Slice.Eq.{bytes_eq-Decides}
use Rattle.std.proofs.lemmas.List.Splits.{join_with_byte-slice_split}
use Rattle.mesh_text.specs.declared.ip.Ip.{Ip}
use Rattle.mesh_text.specs.declared.kind.Kind.{Kind}
use Rattle.mesh_text.specs.declared.kind.Kind.TheVariants.{Nodes, Services, Identities, Addresses}
use Rattle.mesh_text.specs.Numbers.{number_of}
use Rattle.mesh_text.specs.Addresses.{address_of, address_text, split_at}
use Rattle.mesh_text.specs.Laws.{IsIp}
use Rattle.mesh_text.proofs.CallerLemmas.{number_of-sound, IsIp-address_of}
use Rattle.key_paths.specs.declared.hop.Hop.{Hop}
use Rattle.key_paths.specs.declared.hop.Hop.TheVariants.{State, Cache}
use Rattle.key_paths.specs.declared.front.Front.{Front}
use Rattle.key_paths.specs.declared.front.Front.TheVariants.{Configs, Marks, Records, Cuts}
use Rattle.key_paths.specs.declared.key.Key.{Key}
use Rattle.key_paths.specs.declared.key.Key.TheVariants as made
use Rattle.key_paths.specs.declared.fault.KeyFault.{KeyFault}
use Rattle.key_paths.specs.declared.fault.KeyFault.TheVariants as fault
use Rattle.key_paths.specs.Beginnings.{beginning, front_at}
use Rattle.key_paths.specs.Paths.{hop_word, kind_word, hops, kinds}
use Rattle.key_paths.specs.Keys.{front_of, parts_of, key_bytes, IsKey, IsKeyOf, IsClusterName, IsPartName}
use Rattle.key_paths.specs.Reading.{Place, placed, parts_behind, ◌>>=◌, or_fault, cluster_at, name_at, number_at, ip_at, hop_named, kind_named, path_of, mark_from, mark_of_parts, names_at, node_of_parts, service_of_parts, identity_of_parts, address_of_parts, cluster_alone, key_of_parts, key_behind, key_of}
use Rattle.key_paths.proofs.FrontLemmas.{front_at-sound, find-sound}

-- what two judgements one after the other gave, each gave
pub bind-Ok : {A B : Type 0} (first : Result A KeyFault) (next : A → Result B KeyFault) (b : B) → (first >>= next) ≡ Ok b → (a : A) × (first ≡ Ok a) × (next a ≡ Ok b)
bind-Ok (Ok a) next b h = (a, refl, h)
bind-Ok (Err e) next b h = absurd cc

or_fault-Ok : {A : Type 0} (o : Option A) (e : KeyFault) (a : A) → or_fault o e ≡ Ok a → o ≡ Some a
or_fault-Ok (Some x) e a h = cc
or_fault-Ok None e a h = absurd cc

and_then-Some : {A B : Type 0} (o : Option A) (next : A → Option B) (b : B) → option_and_then next o ≡ Some b → (a : A) × (o ≡ Some a) × (next a ≡ Some b)
and_then-Some (Some a) next b h = (a, refl, h)
and_then-Some None next b h = absurd cc

map-Some : {A B : Type 0} (o : Option A) (next : A → B) (b : B) → option_map next o ≡ Some b → (a : A) × (o ≡ Some a) × (next a ≡ b)
map-Some (Some a) next b h = (a, refl, cc)
map-Some None next b h = absurd cc

tested-Ok : {A : Type 0} (b : Bool) (x a : A) (e : KeyFault) → cond b (Ok x) (Err e) ≡ Ok a → (b ≡ true) × (a ≡ x)
tested-Ok true x a e h = (refl, cc)
tested-Ok false x a e h = absurd cc

pub tested-Some : {A : Type 0} (b : Bool) (x a : A) → cond b (Some x) None ≡ Some a → (b ≡ true) × (a ≡ x)
tested-Some true x a h = (refl, cc)
tested-Some false x a h = absurd cc

pub cluster_at-sound : (part : Place) (text : List ℕ) → cluster_at part ≡ Ok text → (text ≡ part.text) × IsClusterName text
cluster_at-sound part text h =
    let (valid, same) = tested-Ok _ _ _ _ h in
    (same, rw same valid)

pub name_at-sound : (part : Place) (text : List ℕ) → name_at part ≡ Ok text → (text ≡ part.text) × IsPartName text
name_at-sound part text h =
    let (valid, same) = tested-Ok _ _ _ _ h in
    (same, rw same valid)

pub number_at-sound : (part : Place) (n : ℕ) → number_at part ≡ Ok n → (decimal n ≡ part.text) × (n < 2 ^ 32)
number_at-sound part n h =
    let (m, read, small) = and_then-Some (number_of part.text) _ n (or_fault-Ok _ _ n h) in
    let (below, same) = tested-Some (nat_lt m (2 ^ 32)) m n small in
    (rw same (sym (number_of-sound part.text m read).1), rw same (ltb-true m (2 ^ 32) below))

pub ip_at-sound : (part : Place) (ip : Ip) → ip_at part ≡ Ok ip → (address_text ip ≡ part.text) × IsIp ip
ip_at-sound part ip h =
    let (found, read, canonical) = and_then-Some (address_of part.text) _ ip (or_fault-Ok _ _ ip h) in
    let (printed, same) = tested-Some (bytes_eq (address_text found) part.text) found ip canonical in
    (rw same ((bytes_eq-Decides (address_text found) part.text).0 printed), rw same (IsIp-address_of part.text found read))

pub hop_named-sound : (text : List ℕ) (hop : Hop) → hop_named text ≡ Some hop → text ≡ hop_word hop
hop_named-sound text hop h = (bytes_eq-Decides text (hop_word hop)).0 (find-sound (λ word. bytes_eq text (hop_word word)) hops hop h)

pub kind_named-sound : (text : List ℕ) (kind : Kind) → kind_named text ≡ Some kind → text ≡ kind_word kind
kind_named-sound text kind h = (bytes_eq-Decides text (kind_word kind)).0 (find-sound (λ word. bytes_eq text (kind_word word)) kinds kind h)

-- the texts of parts
abbrev pub texts : List Place → List (List ℕ)
texts parts = map (λ part. part.text) parts

pub texts-placed : (at : ℕ) (parts : List (List ℕ)) → texts (placed at parts) ≡ parts
texts-placed at [] = refl
texts-placed at (part ∷ parts) = ap (λ rest. part ∷ rest) (texts-placed (at + length part + 1) parts)

-- a key with this beginning and these parts
record Says (front : Front) (parts : List (List ℕ)) (key : Key) : Type 0 where
  begins : front_of key ≡ front
  says : parts_of key ≡ parts
  valid : IsKey key

-- what else was read is this key
said : (front : Front) (parts : List (List ℕ)) (from key : Key) → from ≡ key → Says front parts from → Says front parts key
said front parts from key same says = subst (Says front parts) same says

says_config : (parts : List (List ℕ)) (cluster : List ℕ) (k : Key) → made.Config cluster ≡ k → cluster ∷ [] ≡ parts → IsClusterName cluster → Says Configs parts k
says_config parts cluster k same says valid =
    said Configs parts (made.Config cluster) k same (record { begins = refl; says = says; valid = valid })

says_cut : (parts : List (List ℕ)) (cluster : List ℕ) (k : Key) → made.Cut cluster ≡ k → cluster ∷ [] ≡ parts → IsClusterName cluster → Says Cuts parts k
says_cut parts cluster k same says valid =
    said Cuts parts (made.Cut cluster) k same (record { begins = refl; says = says; valid = valid })

says_node : (hop : Hop) (a b cluster node : List ℕ) (k : Key) → made.Node hop cluster node ≡ k → (cluster ≡ a) × IsClusterName cluster → (node ≡ b) × IsPartName node → Says (Records hop Nodes) (a ∷ b ∷ []) k
says_node hop a b cluster node k same c n =
    said (Records hop Nodes) (a ∷ b ∷ []) (made.Node hop cluster node) k same
    (record { begins = refl; says = rw (c.0, n.0) refl; valid = (c.1, n.1) })

says_service : (hop : Hop) (a b d cluster namespace name : List ℕ) (k : Key) → made.Service hop cluster namespace name ≡ k → (cluster ≡ a) × IsClusterName cluster → (namespace ≡ b) × IsPartName namespace → (name ≡ d) × IsPartName name → Says (Records hop Services) (a ∷ b ∷ d ∷ []) k
says_service hop a b d cluster namespace name k same c s n =
    said (Records hop Services) (a ∷ b ∷ d ∷ []) (made.Service hop cluster namespace name) k same
    (record { begins = refl; says = rw (c.0, s.0, n.0) refl; valid = (c.1, s.1, n.1) })

says_identity : (a : List ℕ) (number : ℕ) (k : Key) → made.Identity None number ≡ k → (decimal number ≡ a) × (number < 2 ^ 32) → Says (Records State Identities) (a ∷ []) k
says_identity a number k same n =
    said (Records State Identities) (a ∷ []) (made.Identity None number) k same
    (record { begins = refl; says = rw n.0 refl; valid = (tt, n.1) })

says_cached_identity : (a b d cluster : List ℕ) (number : ℕ) (k : Key) → made.Identity (Some cluster) number ≡ k → (cluster ≡ a) × IsClusterName cluster → b ≡ codes "id" → (decimal number ≡ d) × (number < 2 ^ 32) → Says (Records Cache Identities) (a ∷ b ∷ d ∷ []) k
says_cached_identity a b d cluster number k same c word n =
    said (Records Cache Identities) (a ∷ b ∷ d ∷ []) (made.Identity (Some cluster) number) k same
    (record { begins = refl; says = rw (c.0, word, n.0) refl; valid = (c.1, n.1) })

says_address : (a : List ℕ) (ip : Ip) (k : Key) → made.Address None ip ≡ k → (address_text ip ≡ a) × IsIp ip → Says (Records State Addresses) (a ∷ []) k
says_address a ip k same i =
    said (Records State Addresses) (a ∷ []) (made.Address None ip) k same
    (record { begins = refl; says = rw i.0 refl; valid = (tt, i.1) })

says_cached_address : (a b cluster : List ℕ) (ip : Ip) (k : Key) → made.Address (Some cluster) ip ≡ k → (cluster ≡ a) × IsClusterName cluster → (address_text ip ≡ b) × IsIp ip → Says (Records Cache Addresses) (a ∷ b ∷ []) k
says_cached_address a b cluster ip k same c i =
    said (Records Cache Addresses) (a ∷ b ∷ []) (made.Address (Some cluster) ip) k same
    (record { begins = refl; says = rw (c.0, i.0) refl; valid = (c.1, i.1) })

says_mark : (a b d e f cluster : List ℕ) (hop : Hop) (kind : Kind) (k : Key) → made.Synced cluster hop kind ≡ k → (cluster ≡ a) × IsClusterName cluster → (b ≡ codes "cilium") × ((d ≡ hop_word hop) × ((e ≡ kind_word kind) × (f ≡ codes "v1"))) → Says Marks (a ∷ b ∷ d ∷ e ∷ f ∷ []) k
says_mark a b d e f cluster hop kind k same c (first, (is_hop, (is_kind, last))) =
    said Marks (a ∷ b ∷ d ∷ e ∷ f ∷ []) (made.Synced cluster hop kind) k same
    (record { begins = refl; says = rw (c.0, first, is_hop, is_kind, last) refl; valid = c.1 })

alone-sound : (parts : List Place) (cluster : List ℕ) → cluster_alone parts ≡ Ok cluster → (cluster ∷ [] ≡ texts parts) × IsClusterName cluster
alone-sound [] cluster h = absurd cc
alone-sound (a ∷ []) cluster h = let c = cluster_at-sound a cluster h in (rw c.0 refl, c.1)
alone-sound (a ∷ b ∷ more) cluster h = absurd cc

node-sound : (hop : Hop) (parts : List Place) (key : Key) → node_of_parts hop parts ≡ Ok key → Says (Records hop Nodes) (texts parts) key
node-sound hop [] key h = absurd cc
node-sound hop (a ∷ []) key h = absurd cc
node-sound hop (a ∷ b ∷ []) key h =
    let (cluster, cluster_read, h₁) = bind-Ok (cluster_at a) _ key h in
    let (node, node_read, h₂) = bind-Ok (name_at b) _ key h₁ in
    let c = cluster_at-sound a cluster cluster_read in
    let n = name_at-sound b node node_read in
    says_node hop a.text b.text cluster node key (cc) c n
node-sound hop (a ∷ b ∷ d ∷ more) key h = absurd cc

service-sound : (hop : Hop) (parts : List Place) (key : Key) → service_of_parts hop parts ≡ Ok key → Says (Records hop Services) (texts parts) key
service-sound hop [] key h = absurd cc
service-sound hop (a ∷ []) key h = absurd cc
service-sound hop (a ∷ b ∷ []) key h = absurd cc
service-sound hop (a ∷ b ∷ d ∷ []) key h =
    let (cluster, cluster_read, h₁) = bind-Ok (cluster_at a) _ key h in
    let (names, names_read, h₂) = bind-Ok (names_at b d) _ key h₁ in
    let (namespace, namespace_read, h₃) = bind-Ok (name_at b) _ names names_read in
    let (name, name_read, h₄) = bind-Ok (name_at d) _ names h₃ in
    let c = cluster_at-sound a cluster cluster_read in
    let s = name_at-sound b namespace namespace_read in
    let n = name_at-sound d name name_read in
    let both : (namespace, name) ≡ names = cc in
    let same : made.Service hop cluster names.0 names.1 ≡ key = cc in
    says_service hop a.text b.text d.text cluster namespace name key (ap (λ both. made.Service hop cluster both.0 both.1) both ∙ same) c s n
service-sound hop (a ∷ b ∷ d ∷ e ∷ more) key h = absurd cc

identity-sound : (hop : Hop) (parts : List Place) (key : Key) → identity_of_parts hop parts ≡ Ok key → Says (Records hop Identities) (texts parts) key
identity-sound State [] key h = absurd cc
identity-sound State (a ∷ []) key h =
    let (number, number_read, h₁) = bind-Ok (number_at a) _ key h in
    let n = number_at-sound a number number_read in
    says_identity a.text number key (cc) n
identity-sound State (a ∷ b ∷ more) key h = absurd cc
identity-sound Cache [] key h = absurd cc
identity-sound Cache (a ∷ []) key h = absurd cc
identity-sound Cache (a ∷ b ∷ []) key h = absurd cc
identity-sound Cache (a ∷ b ∷ d ∷ []) key h = by_word (bytes_eq b.text (codes "id")) refl h
  where
    by_word : (is_id : Bool) → bytes_eq b.text (codes "id") ≡ is_id → cond is_id (cluster_at a >>= λ c. number_at d >>= λ n. Ok (made.Identity (Some c) n)) (Err (fault.Parts 3)) ≡ Ok key → Says (Records Cache Identities) (texts (a ∷ b ∷ d ∷ [])) key
    by_word false e h = absurd cc
    by_word true e h =
        let (cluster, cluster_read, h₁) = bind-Ok (cluster_at a) _ key h in
        let (number, number_read, h₂) = bind-Ok (number_at d) _ key h₁ in
        let c = cluster_at-sound a cluster cluster_read in
        let n = number_at-sound d number number_read in
        let word = (bytes_eq-Decides b.text (codes "id")).0 e in
        says_cached_identity a.text b.text d.text cluster number key (cc) c word n
identity-sound Cache (a ∷ b ∷ d ∷ e ∷ more) key h = absurd cc

address-sound : (hop : Hop) (parts : List Place) (key : Key) → address_of_parts hop parts ≡ Ok key → Says (Records hop Addresses) (texts parts) key
address-sound State [] key h = absurd cc
address-sound State (a ∷ []) key h =
    let (ip, ip_read, h₁) = bind-Ok (ip_at a) _ key h in
    let i = ip_at-sound a ip ip_read in
    says_address a.text ip key (cc) i
address-sound State (a ∷ b ∷ more) key h = absurd cc
address-sound Cache [] key h = absurd cc
address-sound Cache (a ∷ []) key h = absurd cc
address-sound Cache (a ∷ b ∷ []) key h =
    let (cluster, cluster_read, h₁) = bind-Ok (cluster_at a) _ key h in
    let (ip, ip_read, h₂) = bind-Ok (ip_at b) _ key h₁ in
    let c = cluster_at-sound a cluster cluster_read in
    let i = ip_at-sound b ip ip_read in
    says_cached_address a.text b.text cluster ip key (cc) c i
address-sound Cache (a ∷ b ∷ d ∷ more) key h = absurd cc

path_of-sound : (first hop kind last : List ℕ) (path : Hop × Kind) → path_of first hop kind last ≡ Some path → (first ≡ codes "cilium") × ((hop ≡ hop_word path.0) × ((kind ≡ kind_word path.1) × (last ≡ codes "v1")))
path_of-sound first hop kind last path h = by_words (bytes_eq first (codes "cilium")) (bytes_eq last (codes "v1")) refl refl h
  where
    by_words : (is_first is_last : Bool) → bytes_eq first (codes "cilium") ≡ is_first → bytes_eq last (codes "v1") ≡ is_last → cond (is_first && is_last) (option_and_then (λ hop. option_map (λ kind. (hop, kind)) (kind_named kind)) (hop_named hop)) None ≡ Some path → (first ≡ codes "cilium") × ((hop ≡ hop_word path.0) × ((kind ≡ kind_word path.1) × (last ≡ codes "v1")))
    by_words true true e f h =
        let (named_hop, hop_read, h₁) = and_then-Some (hop_named hop) _ path h in
        let (named_kind, kind_read, h₂) = map-Some (kind_named kind) _ path h₁ in (
          (bytes_eq-Decides first (codes "cilium")).0 e,
          (
            hop_named-sound hop path.0 (hop_read ∙ ap (λ p. Some p.0) h₂),
            (kind_named-sound kind path.1 (kind_read ∙ ap (λ p. Some p.1) h₂), (bytes_eq-Decides last (codes "v1")).0 f),
          ),
        )
    by_words true false e f h = absurd cc
    by_words false true e f h = absurd cc
    by_words false false e f h = absurd cc

mark-sound : (parts : List Place) (key : Key) → mark_of_parts parts ≡ Ok key → Says Marks (texts parts) key
mark-sound [] key h = absurd cc
mark-sound (a ∷ []) key h = absurd cc
mark-sound (a ∷ b ∷ []) key h = absurd cc
mark-sound (a ∷ b ∷ d ∷ []) key h = absurd cc
mark-sound (a ∷ b ∷ d ∷ e ∷ []) key h = absurd cc
mark-sound (a ∷ b ∷ d ∷ e ∷ f ∷ []) key h = by_path (path_of b.text d.text e.text f.text) refl h
  where
    by_path : (o : Option (Hop × Kind)) → path_of b.text d.text e.text f.text ≡ o → mark_from a o ≡ Ok key → Says Marks (texts (a ∷ b ∷ d ∷ e ∷ f ∷ [])) key
    by_path None is_path h = absurd cc
    by_path (Some path) is_path h =
        let (cluster, cluster_read, h₁) = bind-Ok (cluster_at a) _ key h in
        let c = cluster_at-sound a cluster cluster_read in
        says_mark a.text b.text d.text e.text f.text cluster path.0 path.1 key (cc) c (path_of-sound b.text d.text e.text f.text path is_path)
mark-sound (a ∷ b ∷ d ∷ e ∷ f ∷ g ∷ more) key h = absurd cc

key_of_parts-sound : (front : Front) (parts : List Place) (key : Key) → key_of_parts front parts ≡ Ok key → Says front (texts parts) key
key_of_parts-sound Configs parts key h =
    let (cluster, cluster_read, h₁) = bind-Ok (cluster_alone parts) _ key h in
    let c = alone-sound parts cluster cluster_read in
    says_config (texts parts) cluster key (cc) c.0 c.1
key_of_parts-sound Cuts parts key h =
    let (cluster, cluster_read, h₁) = bind-Ok (cluster_alone parts) _ key h in
    let c = alone-sound parts cluster cluster_read in
    says_cut (texts parts) cluster key (cc) c.0 c.1
key_of_parts-sound Marks parts key h = mark-sound parts key h
key_of_parts-sound (Records hop Nodes) parts key h = node-sound hop parts key h
key_of_parts-sound (Records hop Services) parts key h = service-sound hop parts key h
key_of_parts-sound (Records hop Identities) parts key h = identity-sound hop parts key h
key_of_parts-sound (Records hop Addresses) parts key h = address-sound hop parts key h

-- what is read as a key is the bytes of that key
pub key_of-sound : (bytes : List ℕ) (key : Key) → key_of bytes ≡ Ok key → IsKeyOf key bytes
unfolding key_of key_bytes
key_of-sound bytes key h = by_front (front_at bytes) refl h
  where
    by_front : (o : Option Front) → front_at bytes ≡ o → key_behind o bytes ≡ Ok key → IsKeyOf key bytes
    by_front None at_front h = absurd cc
    by_front (Some front) at_front h =
        let rest = drop (length (beginning front)) bytes in
        let says = key_of_parts-sound front (parts_behind front bytes) key h in
        let parts = says.says ∙ texts-placed (length (beginning front)) (split_at 47 rest) in
        (says.valid, front_at-sound bytes front at_front ∙ rw (says.begins, parts, join_with_byte-slice_split 47 rest) refl)
