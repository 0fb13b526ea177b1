-- The keys that begin with some bytes stand together in byte order, and what is gathered of them.
use Rattle.std.proofs.Common.{◌≡◌, ℕ, List, [], ◌∷◌, filter, Option, None, Some, cond, refl, ap, sym, ◌∙◌, subst, arith, Bool, true, false, ◌&&◌, ◌⊎◌, inl, inr, nat_eq}
use Rattle.std.proofs.lemmas.Bool.Decides.{nat_tests}
use Rattle.std.proofs.lemmas.List.Kept.{IsStrictlySortedBy-filter}
use Rattle.std.proofs.lemmas.Map.Entries.{lookup-filter-keys}
use Rattle.std.specs.Ordering.{nat_cmp, is_eq, is_le, ordering_then}
use Rattle.std.specs.declared.cmp.Ordering.{Ordering}
use Rattle.std.specs.declared.cmp.Ordering.TheVariants.{Less, Equal}
use Rattle.std.specs.declared.ops.Bound.TheVariants.{Included, Unbounded}
use Rattle.std.specs.Cmp.{eq_by_cmp_equiv}
use Rattle.std.specs.Cmp.Lexicographic.{slice_cmp, nat_list_cmp_total}
use Rattle.std.specs.List.{starts_with, AllByRecursion}
use Rattle.std.specs.List.Sorted.{IsStrictlySortedBy}
use Rattle.std.specs.BTreeMap.{BTreeMap, get, is_at}
use Rattle.std.specs.BTreeMap.Range.{entries_between}
use Rattle.std.specs.Map.{lookup, keys_of}
use Rattle.store_api.specs.History.{Pairs}
use Rattle.store_api.specs.declared.change.Range.TheVariants.{One}
use Rattle.memory_store.specs.Kept.{first_of, gathered}
use Rattle.memory_store.proofs.Sets.{same_key, keys-filter}

abbrev pub Entries : Type 0
Entries = List (List ℕ × List ℕ)

abbrev pub begins : List ℕ → List ℕ → Bool
begins front k = starts_with nat_eq k front

-- the entries whose keys begin so
abbrev pub those : List ℕ → Entries → Entries
those front es = filter (λ (e : List ℕ × List ℕ). begins front e.0) es

cases : (b : Bool) → (b ≡ true) ⊎ (b ≡ false)
cases true = inl refl
cases false = inr refl

both : (a b : Bool) → a && b ≡ true → (a ≡ true) × (b ≡ true)
both true b h = (refl, h)
both false b h = cc

and_true : (a b : Bool) → a ≡ true → b ≡ true → a && b ≡ true
and_true true b p q = q
and_true false b p q = p

same_number : (a b : ℕ) → nat_eq a b ≡ true → a ≡ b
same_number a b h = grind (arith, nat_tests)

number_same : (a b : ℕ) → a ≡ b → nat_eq a b ≡ true
number_same a b h = grind (arith, nat_tests)

number_ties : (a b : ℕ) → a ≡ b → nat_cmp a b ≡ Equal
number_ties a b h = grind (arith, nat_tests)

heads_meet : (a b : ℕ) (o p : Ordering) → is_le (ordering_then (nat_cmp a b) o) ≡ true → ordering_then (nat_cmp b a) p ≡ Less → a ≡ b
heads_meet a b o p le less = grind (arith, nat_tests)

-- the bytes are at or before each key that they begin
front_first : (front k : List ℕ) → begins front k ≡ true → is_le (slice_cmp nat_cmp front k) ≡ true
front_first [] [] h = refl
front_first [] (x ∷ k) h = refl
front_first (f ∷ front) [] h = cc
front_first (f ∷ front) (x ∷ k) h =
    let two = both (nat_eq f x) (begins front k) h in
    ap (λ (o : Ordering). is_le (ordering_then o (slice_cmp nat_cmp front k))) (number_ties f x (same_number f x two.0)) ∙ front_first front k two.1

-- and a key between them and such a key is one too
between : (front k later : List ℕ) → is_le (slice_cmp nat_cmp front k) ≡ true → slice_cmp nat_cmp k later ≡ Less → begins front later ≡ true → begins front k ≡ true
between [] k later le less h = refl
between (f ∷ front) [] later le less h = cc
between (f ∷ front) (x ∷ k) [] le less h = cc
between (f ∷ front) (x ∷ k) (y ∷ later) le less h =
    let two = both (nat_eq f y) (begins front later) h in
    let fy : f ≡ y = same_number f y two.0 in
    let fx : f ≡ x = heads_meet f x (slice_cmp nat_cmp front k) (slice_cmp nat_cmp k later) le (subst (λ (n : ℕ). ordering_then (nat_cmp x n) (slice_cmp nat_cmp k later) ≡ Less) (sym fy) less) in
    and_true (nat_eq f x) (begins front k) (number_same f x fx)
    (between front k later
    (sym (ap (λ (o : Ordering). is_le (ordering_then o (slice_cmp nat_cmp front k))) (number_ties f x fx)) ∙ le)
    (sym (ap (λ (o : Ordering). ordering_then o (slice_cmp nat_cmp k later)) (number_ties x y (sym fx ∙ fy))) ∙ less)
    two.1)

-- so there is none behind one that isn't
none_behind : (front q : List ℕ) (es : Entries) → is_le (slice_cmp nat_cmp front q) ≡ true → begins front q ≡ false → AllByRecursion (λ (x : List ℕ). slice_cmp nat_cmp q x ≡ Less) (keys_of es) → those front es ≡ []
none_behind front q [] le not_one above = refl
none_behind front q (e ∷ es) le not_one above =
    let other : begins front e.0 ≡ false = elim (cases (begins front e.0)) [ inl t ↦ let one = between front q e.0 le above.0 t in cc | inr n ↦ n ] in
    ap (λ (b : Bool). cond b (e ∷ those front es) (those front es)) other ∙ none_behind front q es le not_one above.1

filter-weaker : (p q : List ℕ × List ℕ → Bool) → ((e : List ℕ × List ℕ) → p e ≡ true → q e ≡ true) → (es : Entries) → filter p (filter q es) ≡ filter p es
filter-weaker p q weaker [] = refl
filter-weaker p q weaker (e ∷ es) =
    elim (cases (q e)) [
      | inl t ↦ ap (λ (b : Bool). filter p (cond b (e ∷ filter q es) (filter q es))) t ∙ ap (λ (l : Entries). cond (p e) (e ∷ l) l) (filter-weaker p q weaker es)
      | inr n ↦
          let none : p e ≡ false = elim (cases (p e)) [ inl t ↦ let some = weaker e t in cc | inr f ↦ f ] in
          ap (λ (b : Bool). filter p (cond b (e ∷ filter q es) (filter q es))) n ∙ filter-weaker p q weaker es ∙ sym (ap (λ (b : Bool). cond b (e ∷ filter p es) (filter p es)) none)
    ]

-- the entries at or behind the bytes
abbrev pub from : List ℕ → Entries → Entries
from front es = entries_between (slice_cmp nat_cmp) (Included front) Unbounded es

those-from : (front : List ℕ) (es : Entries) → those front (from front es) ≡ those front es
those-from front es = filter-weaker (λ e. begins front e.0) _ (λ e h. and_true (is_le (slice_cmp nat_cmp front e.0)) true (front_first front e.0 h) refl) es

all_from : (front : List ℕ) (es : Entries) → AllByRecursion (λ (x : List ℕ). is_le (slice_cmp nat_cmp front x) ≡ true) (keys_of (from front es))
all_from front [] = tt
all_from front (e ∷ es) =
    elim (cases (is_le (slice_cmp nat_cmp front e.0))) [
      | inl t ↦ subst (λ (b : Bool). AllByRecursion (λ (x : List ℕ). is_le (slice_cmp nat_cmp front x) ≡ true) (keys_of (cond (b && true) (e ∷ from front es) (from front es)))) (sym t) (t, all_from front es)
      | inr n ↦ subst (λ (b : Bool). AllByRecursion (λ (x : List ℕ). is_le (slice_cmp nat_cmp front x) ≡ true) (keys_of (cond (b && true) (e ∷ from front es) (from front es)))) (sym n) (all_from front es)
    ]

-- what a map has at a key once the entries are put in
abbrev pub after_entries : List ℕ → Option (List ℕ) → Entries → Option (List ℕ)
after_entries k old [] = old
after_entries k old (e ∷ es) = after_entries k (cond (is_at (slice_cmp nat_cmp e.0) k) (Some e.1) old) es

none_later : (k : List ℕ) (es : Entries) → AllByRecursion (λ (x : List ℕ). slice_cmp nat_cmp k x ≡ Less) (keys_of es) → lookup (is_at (slice_cmp nat_cmp k)) es ≡ None
none_later k [] above = refl
none_later k (e ∷ es) above = ap (λ (o : Ordering). cond (is_eq o) (Some e.1) (lookup (is_at (slice_cmp nat_cmp k)) es)) above.0 ∙ none_later k es above.1

after_sorted : (k : List ℕ) (old : Option (List ℕ)) (es : Entries) → IsStrictlySortedBy (slice_cmp nat_cmp) (keys_of es) → after_entries k old es ≡ first_of (lookup (is_at (slice_cmp nat_cmp k)) es) old
unfolding IsStrictlySortedBy
after_sorted k old [] order = refl
after_sorted k old (e ∷ es) order =
    after_sorted k (cond (is_at (slice_cmp nat_cmp e.0) k) (Some e.1) old) es order.1
    ∙ ap (λ (b : Bool). first_of (lookup (is_at (slice_cmp nat_cmp k)) es) (cond b (Some e.1) old)) ((eq_by_cmp_equiv nat_list_cmp_total).symm e.0 k)
    ∙ elim (cases (is_at (slice_cmp nat_cmp k) e.0)) [
      | inl t ↦
          let none : lookup (is_at (slice_cmp nat_cmp k)) es ≡ None = none_later k es (subst (λ (q : List ℕ). AllByRecursion (λ (x : List ℕ). slice_cmp nat_cmp q x ≡ Less) (keys_of es)) (sym (same_key k e.0 t)) order.0) in
          ap (λ (o : Option (List ℕ)). first_of o (cond (is_at (slice_cmp nat_cmp k) e.0) (Some e.1) old)) none ∙ ap (λ (b : Bool). cond b (Some e.1) old) t
          ∙ sym (ap (λ (b : Bool). first_of (cond b (Some e.1) (lookup (is_at (slice_cmp nat_cmp k)) es)) old) t)
      | inr n ↦ ap (λ (b : Bool). first_of (lookup (is_at (slice_cmp nat_cmp k)) es) (cond b (Some e.1) old)) n ∙ sym (ap (λ (b : Bool). first_of (cond b (Some e.1) (lookup (is_at (slice_cmp nat_cmp k)) es)) old) n)
    ]

after_those : (front k : List ℕ) (old : Option (List ℕ)) (es : Entries) → IsStrictlySortedBy (slice_cmp nat_cmp) (keys_of es)
    → after_entries k old (those front es) ≡ first_of (cond (begins front k) (lookup (is_at (slice_cmp nat_cmp k)) es) None) old
after_those front k old es order =
    after_sorted k old (those front es) (subst (IsStrictlySortedBy (slice_cmp nat_cmp)) (sym (keys-filter (begins front) es)) (IsStrictlySortedBy-filter (slice_cmp nat_cmp) (begins front) (keys_of es) order))
    ∙ ap (λ (o : Option (List ℕ)). first_of o old) (lookup-filter-keys (is_at (slice_cmp nat_cmp k)) (begins front) (begins front k) (λ q same. ap (begins front) (sym (same_key k q same))) es)

-- what is left to gather gives what all gives, and is in order behind the bytes
pub record Gathers (front : List ℕ) (old now : BTreeMap (List ℕ) (List ℕ)) (all rest : Entries) : Type 0 where
  pub same : (k : List ℕ) → after_entries k (get (slice_cmp nat_cmp) now k) (those front rest) ≡ after_entries k (get (slice_cmp nat_cmp) old k) (those front all)
  pub order : IsStrictlySortedBy (slice_cmp nat_cmp) (keys_of rest)
  pub behind : AllByRecursion (λ (x : List ℕ). is_le (slice_cmp nat_cmp front x) ≡ true) (keys_of rest)

pub gathers_first : (front : List ℕ) (old : BTreeMap (List ℕ) (List ℕ)) (all rest : Entries) → IsStrictlySortedBy (slice_cmp nat_cmp) (keys_of all) → rest ≡ from front all → Gathers front old old all rest
gathers_first front old all rest order is = record {
  same = λ k. ap (λ (es : Entries). after_entries k (get (slice_cmp nat_cmp) old k) (those front es)) is ∙ ap (after_entries k (get (slice_cmp nat_cmp) old k)) (those-from front all);
  order = subst (λ (es : Entries). IsStrictlySortedBy (slice_cmp nat_cmp) (keys_of es)) (sym is) (subst (IsStrictlySortedBy (slice_cmp nat_cmp)) (sym (keys-filter _ all)) (IsStrictlySortedBy-filter (slice_cmp nat_cmp) _ (keys_of all) order));
  behind = subst (λ (es : Entries). AllByRecursion (λ (x : List ℕ). is_le (slice_cmp nat_cmp front x) ≡ true) (keys_of es)) (sym is) (all_from front all);
}

pub gathers_next : (front : List ℕ) (old now next : BTreeMap (List ℕ) (List ℕ)) (all rest : Entries) (e : List ℕ × List ℕ) → Gathers front old now all (e ∷ rest) → begins front e.0 ≡ true
    → ((k : List ℕ) → get (slice_cmp nat_cmp) next k ≡ cond (is_at (slice_cmp nat_cmp e.0) k) (Some e.1) (get (slice_cmp nat_cmp) now k)) → Gathers front old next all rest
unfolding IsStrictlySortedBy
gathers_next front old now next all rest e before one put = record {
  same = λ k. ap (λ (o : Option (List ℕ)). after_entries k o (those front rest)) (put k) ∙ sym (ap (λ (b : Bool). after_entries k (get (slice_cmp nat_cmp) now k) (cond b (e ∷ those front rest) (those front rest))) one) ∙ before.same k;
  order = before.order.1;
  behind = before.behind.1;
}

pub gathers_all : (front : List ℕ) (old now : BTreeMap (List ℕ) (List ℕ)) (all rest : Entries) → Gathers front old now all rest → those front rest ≡ [] → IsStrictlySortedBy (slice_cmp nat_cmp) (keys_of all)
    → (k : List ℕ) → get (slice_cmp nat_cmp) now k ≡ first_of (cond (begins front k) (lookup (is_at (slice_cmp nat_cmp k)) all) None) (get (slice_cmp nat_cmp) old k)
gathers_all front old now all rest before none order k = sym (ap (after_entries k (get (slice_cmp nat_cmp) now k)) none) ∙ before.same k ∙ after_those front k (get (slice_cmp nat_cmp) old k) all order

pub gathers_none : (front : List ℕ) (old now : BTreeMap (List ℕ) (List ℕ)) (all rest : Entries) (e : List ℕ × List ℕ) → Gathers front old now all (e ∷ rest) → begins front e.0 ≡ false → those front (e ∷ rest) ≡ []
unfolding IsStrictlySortedBy
gathers_none front old now all rest e before other = ap (λ (b : Bool). cond b (e ∷ those front rest) (those front rest)) other ∙ none_behind front e.0 rest before.behind.0 other before.order.0

-- the same, as the loop has its facts
pub gathers_put : (front : List ℕ) (old now next : BTreeMap (List ℕ) (List ℕ)) (all it rest : Entries) (key value key_put value_put : List ℕ) → Gathers front old now all it → it ≡ (key, value) ∷ rest → begins front key ≡ true
    → key_put ≡ key → value_put ≡ value → ((k : List ℕ) → get (slice_cmp nat_cmp) next k ≡ cond (is_at (slice_cmp nat_cmp key_put) k) (Some value_put) (get (slice_cmp nat_cmp) now k)) → Gathers front old next all rest
gathers_put front old now next all it rest key value key_put value_put before is one key_is value_is put =
    gathers_next front old now next all rest (key, value) (subst (Gathers front old now all) is before) one
    (λ k. put k
    ∙ ap (λ (q : List ℕ). cond (is_at (slice_cmp nat_cmp q) k) (Some value_put) (get (slice_cmp nat_cmp) now k)) key_is
    ∙ ap (λ (v : List ℕ). cond (is_at (slice_cmp nat_cmp key) k) (Some v) (get (slice_cmp nat_cmp) now k)) value_is)

pub gathers_end : (front : List ℕ) (old now : BTreeMap (List ℕ) (List ℕ)) (all it rest : Entries) (key value : List ℕ) → Gathers front old now all it → it ≡ (key, value) ∷ rest → begins front key ≡ false
    → IsStrictlySortedBy (slice_cmp nat_cmp) (keys_of all) → (k : List ℕ) → get (slice_cmp nat_cmp) now k ≡ first_of (cond (begins front k) (lookup (is_at (slice_cmp nat_cmp k)) all) None) (get (slice_cmp nat_cmp) old k)
gathers_end front old now all it rest key value before is other order =
    let left : Gathers front old now all ((key, value) ∷ rest) = subst (Gathers front old now all) is before in
    gathers_all front old now all ((key, value) ∷ rest) left (gathers_none front old now all rest (key, value) left other) order

-- ---- one key
pub one_put : (key value : List ℕ) (live old new : Pairs) → live key ≡ Some value → ((k : List ℕ) → new k ≡ cond (is_at (slice_cmp nat_cmp key) k) (Some value) (old k)) → (k : List ℕ) → new k ≡ gathered (One key) live old k
one_put key value live old new is put k =
    put k ∙ ap (λ (b : Bool). cond b (Some value) (old k)) ((eq_by_cmp_equiv nat_list_cmp_total).symm key k)
    ∙ elim (cases (is_at (slice_cmp nat_cmp k) key)) [
      | inl t ↦ ap (λ (b : Bool). cond b (Some value) (old k)) t ∙ sym (ap (λ (b : Bool). first_of (cond b (live k) None) (old k)) t ∙ ap (λ (o : Option (List ℕ)). first_of o (old k)) (ap live (same_key k key t) ∙ is))
      | inr n ↦ ap (λ (b : Bool). cond b (Some value) (old k)) n ∙ sym (ap (λ (b : Bool). first_of (cond b (live k) None) (old k)) n)
    ]

pub one_none : (key : List ℕ) (live old : Pairs) → live key ≡ None → (k : List ℕ) → old k ≡ gathered (One key) live old k
one_none key live old is k =
    elim (cases (is_at (slice_cmp nat_cmp k) key)) [
      | inl t ↦ sym (ap (λ (b : Bool). first_of (cond b (live k) None) (old k)) t ∙ ap (λ (o : Option (List ℕ)). first_of o (old k)) (ap live (same_key k key t) ∙ is))
      | inr n ↦ sym (ap (λ (b : Bool). first_of (cond b (live k) None) (old k)) n)
    ]
