-- What an exporter exports, key by key, and what writing an item is by that.
use Rattle.std.proofs.Common.{◌≡◌, ◌≢◌, ℕ, List, [], ◌∷◌, ◌++◌, map, get_or, Bool, true, false, ◌||◌, cond, Option, Some, nat_eq, refl, sym, ap, ◌∙◌, drop, length, arith}
use Rattle.std.specs.Bool.{IsTrue}
use Rattle.std.specs.Cmp.{eq_by_cmp_equiv}
use Rattle.std.specs.Cmp.Lexicographic.{slice_cmp, nat_list_cmp_total}
use Rattle.std.specs.Ordering.{nat_cmp, eq_by_cmp}
use Rattle.std.specs.FinMap.{get, get-entries, get-from_entries, entries}
use Rattle.std.specs.List.{list_any, starts_with}
use Rattle.mesh_text.specs.declared.kind.Kind.{Kind}
use Rattle.mesh_text.specs.declared.kind.Kind.TheVariants.{Nodes, Services, Identities, Addresses}
use Rattle.store_api.specs.History.{in_ranges}
use Rattle.key_paths.specs.declared.hop.Hop.TheVariants.{State}
use Rattle.key_paths.specs.Beginnings.{beginning}
use Rattle.key_paths.specs.Paths.{kinds, config_key, mark_key, record_front, record_ranges}
use Rattle.key_paths.proofs.CallerLemmas.{starts-sound}
use Rattle.exporter.specs.declared.item.Item.{Item}
use Rattle.exporter.specs.declared.item.Item.TheVariants as item
use Rattle.exporter.specs.Runs.{exported, mark_pair}
use Rattle.exporter.specs.State.{Export, config_value, mark_value, record_op, op_of}
use Rattle.exporter.proofs.Maps.{same_bytes_are}

abbrev pub eqb : List ℕ → List ℕ → Bool
eqb q k = eq_by_cmp (slice_cmp nat_cmp) q k

-- the value of a mark where the key is one of these kinds, and otherwise this
abbrev pub mark_or : List ℕ → List Kind → List ℕ → Option (List ℕ) → Option (List ℕ)
mark_or c [] q other = other
mark_or c (kind ∷ ks) q other = cond (eqb q (mark_key c State kind)) (Some mark_value) (mark_or c ks q other)

-- what is exported under a key
abbrev pub value_in : Export → List ℕ → Option (List ℕ)
value_in s q = cond (eqb q (config_key s.cluster)) (Some (config_value s.number)) (mark_or s.cluster kinds q (get s.declared q))

pub get_exported : (s : Export) (q : List ℕ) → get (exported s) q ≡ value_in s q
get_exported s q = get-from_entries nat_list_cmp_total ((config_key s.cluster, config_value s.number) ∷ (map (mark_pair s.cluster) kinds ++ entries s.declared)) q
    ∙ ap (λ (o : Option (List ℕ)). cond (eqb q (config_key s.cluster)) (Some (config_value s.number)) (mark_or s.cluster kinds q o)) (sym (get-entries s.declared q))

-- ---- the keys are apart: their ninth bytes differ
ninth : List ℕ → ℕ
ninth k = get_or k 8 0

config_ninth : (c : List ℕ) → get_or (config_key c) 8 0 ≡ 108
unfolding beginning
config_ninth c = refl

mark_ninth : (c : List ℕ) (kind : Kind) → get_or (mark_key c State kind) 8 0 ≡ 121
unfolding beginning
mark_ninth c kind = refl

front_ninth : (c rest : List ℕ) (kind : Kind) → get_or (record_front State kind c ++ rest) 8 0 ≡ 116
unfolding record_front beginning
front_ninth c rest Nodes = refl
front_ninth c rest Services = refl
front_ninth c rest Identities = refl
front_ninth c rest Addresses = refl

begun_ninth : (c k : List ℕ) (kind : Kind) → starts_with nat_eq k (record_front State kind c) ≡ true → get_or k 8 0 ≡ 116
begun_ninth c k kind starts = ap (λ (x : List ℕ). get_or x 8 0) (starts-sound k (record_front State kind c) starts) ∙ front_ninth c (drop (length (record_front State kind c)) k) kind

one_of : (a b : Bool) {P : Type 0} → (a ≡ true → P) → (b ≡ true → P) → a || b ≡ true → P
one_of true b here later h = here refl
one_of false b here later h = later h

abbrev pub IsInside : List ℕ → List ℕ → Type 0
IsInside c k = IsTrue (in_ranges (record_ranges c State) k)

record_ninth : (c k : List ℕ) → IsInside c k → get_or k 8 0 ≡ 116
record_ninth c k inside =
    one_of _ _ (begun_ninth c k Nodes)
    (one_of _ _ (begun_ninth c k Services)
    (one_of _ _ (begun_ninth c k Identities)
    (one_of _ _ (begun_ninth c k Addresses) (λ h. cc)))) inside

apart : (q k : List ℕ) (m n : ℕ) → get_or q 8 0 ≡ m → get_or k 8 0 ≡ n → m ≢ n → eqb q k ≡ false
apart q k m n at_q at_k differ = elim (eqb q k) as (λ b. eqb q k ≡ b → b ≡ false) [
  | true ↦ λ e. absurd (differ (sym at_q ∙ ap (λ (x : List ℕ). get_or x 8 0) (same_bytes_are q k e) ∙ at_k))
  | false ↦ λ _. refl
] refl

pub self : (k : List ℕ) → eqb k k ≡ true
self k = (eq_by_cmp_equiv nat_list_cmp_total).refl k

record_not_config : (c k : List ℕ) → IsInside c k → eqb k (config_key c) ≡ false
record_not_config c k inside = apart k (config_key c) 116 108 (record_ninth c k inside) (config_ninth c) (λ e. absurd (omega (arith, e)))

record_not_mark : (c k : List ℕ) (kind : Kind) → IsInside c k → eqb k (mark_key c State kind) ≡ false
record_not_mark c k kind inside = apart k (mark_key c State kind) 116 121 (record_ninth c k inside) (mark_ninth c kind) (λ e. absurd (omega (arith, e)))

mark_not_config : (c : List ℕ) (kind : Kind) → eqb (mark_key c State kind) (config_key c) ≡ false
mark_not_config c kind = apart (mark_key c State kind) (config_key c) 121 108 (mark_ninth c kind) (config_ninth c) (λ e. absurd (omega (arith, e)))

no_mark : (c : List ℕ) (ks : List Kind) (q : List ℕ) (other : Option (List ℕ)) → IsInside c q → mark_or c ks q other ≡ other
no_mark c [] q other inside = refl
no_mark c (kind ∷ ks) q other inside = ap (λ (b : Bool). cond b (Some mark_value) (mark_or c ks q other)) (record_not_mark c q kind inside) ∙ no_mark c ks q other inside

is_among : (c : List ℕ) (ks : List Kind) (q : List ℕ) (other : Option (List ℕ)) → list_any (λ (kind : Kind). eqb q (mark_key c State kind)) ks ≡ true → mark_or c ks q other ≡ Some mark_value
is_among c [] q other h = cc
is_among c (kind ∷ ks) q other h = elim (eqb q (mark_key c State kind)) as (λ b. b || list_any (λ (k : Kind). eqb q (mark_key c State k)) ks ≡ true → cond b (Some mark_value) (mark_or c ks q other) ≡ Some mark_value) [
  | true ↦ λ _. refl
  | false ↦ λ later. is_among c ks q other later
] h

any_first : (p : Kind → Bool) (x : Kind) (xs : List Kind) → p x ≡ true → list_any p (x ∷ xs) ≡ true
any_first p x xs h = ap (λ (b : Bool). b || list_any p xs) h

any_rest : (p : Kind → Bool) (x : Kind) (xs : List Kind) → list_any p xs ≡ true → list_any p (x ∷ xs) ≡ true
any_rest p x xs h = elim (p x) as (λ b. b || list_any p xs ≡ true) [ true ↦ refl | false ↦ h ]

abbrev is_mark_of : List ℕ → List ℕ → Kind → Bool
is_mark_of c q kind = eqb q (mark_key c State kind)

among_kinds : (c : List ℕ) (kind : Kind) → list_any (is_mark_of c (mark_key c State kind)) kinds ≡ true
among_kinds c Nodes = any_first (is_mark_of c (mark_key c State Nodes)) Nodes (Services ∷ Identities ∷ Addresses ∷ []) (self (mark_key c State Nodes))
among_kinds c Services =
    any_rest (is_mark_of c (mark_key c State Services)) Nodes (Services ∷ Identities ∷ Addresses ∷ [])
    (any_first (is_mark_of c (mark_key c State Services)) Services (Identities ∷ Addresses ∷ []) (self (mark_key c State Services)))
among_kinds c Identities =
    any_rest (is_mark_of c (mark_key c State Identities)) Nodes (Services ∷ Identities ∷ Addresses ∷ [])
    (any_rest (is_mark_of c (mark_key c State Identities)) Services (Identities ∷ Addresses ∷ [])
    (any_first (is_mark_of c (mark_key c State Identities)) Identities (Addresses ∷ []) (self (mark_key c State Identities))))
among_kinds c Addresses =
    any_rest (is_mark_of c (mark_key c State Addresses)) Nodes (Services ∷ Identities ∷ Addresses ∷ [])
    (any_rest (is_mark_of c (mark_key c State Addresses)) Services (Identities ∷ Addresses ∷ [])
    (any_rest (is_mark_of c (mark_key c State Addresses)) Identities (Addresses ∷ [])
    (any_first (is_mark_of c (mark_key c State Addresses)) Addresses [] (self (mark_key c State Addresses)))))

-- ---- items
abbrev pub key_in : List ℕ → Item → List ℕ
key_in c item.Config = config_key c
key_in c (item.Record key) = key
key_in c (item.Mark kind) = mark_key c State kind

-- a record's item has the key of one
abbrev pub Fits : List ℕ → Item → Type 0
Fits c (item.Record key) = IsInside c key
Fits c _ = Unit {0}

-- what is exported under an item's key is what writing it puts
pub op_is : (s : Export) (i : Item) → Fits s.cluster i → op_of s i ≡ record_op (key_in s.cluster i) (value_in s (key_in s.cluster i)) s.lease
op_is s item.Config fits = ap (λ (b : Bool). record_op (config_key s.cluster) (cond b (Some (config_value s.number)) (mark_or s.cluster kinds (config_key s.cluster) (get s.declared (config_key s.cluster)))) s.lease) (sym (self (config_key s.cluster)))
op_is s (item.Record key) fits =
    let is : value_in s key ≡ get s.declared key = ap (λ (b : Bool). cond b (Some (config_value s.number)) (mark_or s.cluster kinds key (get s.declared key))) (record_not_config s.cluster key fits) ∙ no_mark s.cluster kinds key (get s.declared key) fits in
    ap (λ (o : Option (List ℕ)). record_op key o s.lease) (sym is)
op_is s (item.Mark kind) fits =
    let key : List ℕ = mark_key s.cluster State kind in
    let is : value_in s key ≡ Some mark_value = ap (λ (b : Bool). cond b (Some (config_value s.number)) (mark_or s.cluster kinds key (get s.declared key))) (mark_not_config s.cluster kind) ∙ is_among s.cluster kinds key (get s.declared key) (among_kinds s.cluster kind) in
    ap (λ (o : Option (List ℕ)). record_op key o s.lease) (sym is)
