-- How often keys wait in a queue.
use Rattle.std.proofs.Common.{◌≡◌, ℕ, ◌+◌, List, [], ◌∷◌, ◌++◌, Bool, true, false, cond, refl, sym, ap, subst, ◌∙◌, ◌||◌, Option, None, Some, append-nil, arith}
use Rattle.std.proofs.lemmas.List.Folds.{list_any-append}
use Rattle.std.specs.Ordering.{nat_cmp, is_eq}
use Rattle.std.specs.declared.cmp.Ordering.TheVariants.{Less}
use Rattle.std.specs.BTreeSet.{BTreeSet, contains}
use Rattle.std.specs.Cmp.Lexicographic.{slice_cmp}
use Rattle.std.specs.List.{list_any, AllByRecursion}
use Rattle.std.specs.List.Sorted.{IsStrictlySortedBy}
use Rattle.std.specs.Option.{option_to_list}
use Rattle.mesh_base.specs.Order.{same_bytes}
use Rattle.exporter.specs.declared.item.Item.{Item}
use Rattle.exporter.specs.declared.item.Item.TheVariants as item
use Rattle.exporter.specs.Kept.{times, HasKeys}
use Rattle.exporter.specs.State.{is_record, with_key}
use Rattle.exporter.proofs.Maps.{same_bytes_are}

abbrev pub as_count : Bool → ℕ
as_count b = cond b 1 0

pub same_key : (k q : List ℕ) → same_bytes k q ≡ true → k ≡ q
same_key k q is = same_bytes_are k q is

-- a key that waits is among the items
pub any_of_times : (key : List ℕ) (items : List Item) (b : Bool) → times key items ≡ as_count b → list_any (is_record key) items ≡ b
any_of_times key [] true e = absurd (omega arith)
any_of_times key [] false e = refl
any_of_times key (first ∷ items) b e =
    elim (is_record key first) as (λ r. cond r 1 0 + times key items ≡ as_count b → r || list_any (is_record key) items ≡ b) [
      | true ↦ λ h. (elim b as (λ c. 1 + times key items ≡ as_count c → true ≡ c) [ true ↦ λ _. refl | false ↦ λ g. absurd (omega arith) ] h)
      | false ↦ λ h. any_of_times key items b (omega (arith, h))
    ] e

pub times_append : (key : List ℕ) (items : List Item) (last : Item) → times key (items ++ last ∷ []) ≡ times key items + as_count (is_record key last)
times_append key [] last = omega arith
times_append key (first ∷ items) last = omega (arith, times_append key items last)

abbrev pub Set : Type 0
Set = BTreeSet (List ℕ)

abbrev pub has : Set → List ℕ → Bool
has keys key = contains (slice_cmp nat_cmp) keys key

-- whether a key waits is whether the set has it
pub waits_is : (items : List Item) (keys : Set) (key : List ℕ) → HasKeys items keys → list_any (is_record key) items ≡ has keys key
waits_is items keys key kept = any_of_times key items (has keys key) (kept key)

pub with_waiting : (key : List ℕ) (items : List Item) → list_any (is_record key) items ≡ true → items ≡ with_key key items
with_waiting key items is = rw is refl

pub with_new : (key : List ℕ) (items : List Item) → list_any (is_record key) items ≡ false → with_key key items ≡ items ++ item.Record key ∷ []
with_new key items is = rw is refl

-- a key more that did not wait
pub added_key : (items : List Item) (old new : Set) (k : List ℕ) → HasKeys items old → has old k ≡ false
    → ((q : List ℕ) → has new q ≡ cond (same_bytes k q) true (has old q)) → HasKeys (items ++ item.Record k ∷ []) new
added_key items old new k kept absent is q = times_append q items (item.Record k)
    ∙ elim (same_bytes k q) as (λ b. same_bytes k q ≡ b → times q items + as_count b ≡ as_count (cond b true (has old q))) [
      | true ↦ λ e. (let one : times k items ≡ 0 = kept k ∙ ap as_count absent in let here : times q items ≡ 0 = subst (λ (x : List ℕ). times x items ≡ 0) (same_key k q e) one in omega (arith, here))
      | false ↦ λ e. omega (arith, kept q)
    ] refl
    ∙ ap as_count (sym (is q))

-- an item more that is no record
pub added_other : (items : List Item) (keys : Set) (last : Item) → HasKeys items keys → ((q : List ℕ) → is_record q last ≡ false) → HasKeys (items ++ last ∷ []) keys
added_other items keys last kept other q = times_append q items last ∙ ap (λ (b : Bool). times q items + as_count b) (other q) ∙ omega (arith, kept q)

small : (n : ℕ) (b : Bool) → n + 1 ≡ as_count b → n ≡ 0
small n true e = omega (arith, e)
small n false e = absurd (omega (arith, e))

-- the last item is taken out
pub dropped_key : (items : List Item) (old new : Set) (k : List ℕ) → HasKeys (items ++ item.Record k ∷ []) old
    → ((q : List ℕ) → has new q ≡ cond (same_bytes k q) false (has old q)) → HasKeys items new
dropped_key items old new k kept is q =
    elim (same_bytes k q) as (λ b. times q items + as_count b ≡ as_count (has old q) → times q items ≡ as_count (cond b false (has old q))) [
      | true ↦ λ e. small (times q items) (has old q) e
      | false ↦ λ e. omega (arith, e)
    ] (sym (times_append q items (item.Record k)) ∙ kept q)
    ∙ ap as_count (sym (is q))

pub dropped_other : (items : List Item) (keys : Set) (last : Item) → HasKeys (items ++ last ∷ []) keys → ((q : List ℕ) → is_record q last ≡ false) → HasKeys items keys
dropped_other items keys last kept other q =
    let whole : times q items + as_count (is_record q last) ≡ as_count (has keys q) = sym (times_append q items last) ∙ kept q in
    let none : times q items + 0 ≡ as_count (has keys q) = subst (λ (b : Bool). times q items + as_count b ≡ as_count (has keys q)) (other q) whole in
    omega (arith, none)

-- what was taken from the back is none or no record
pub dropped_rest : (items left : List Item) (keys : Set) (last : Option Item) → HasKeys items keys → items ≡ left ++ option_to_list last → ((k : List ℕ) → last ≡ Some (item.Record k) → ⊥) → HasKeys left keys
dropped_rest items left keys None kept is other = subst (λ (q : List Item). HasKeys q keys) (is ∙ append-nil left) kept
dropped_rest items left keys (Some item.Config) kept is other = dropped_other left keys item.Config (subst (λ (q : List Item). HasKeys q keys) is kept) (λ _. refl)
dropped_rest items left keys (Some (item.Mark kind)) kept is other = dropped_other left keys (item.Mark kind) (subst (λ (q : List Item). HasKeys q keys) is kept) (λ _. refl)
dropped_rest items left keys (Some (item.Record k)) kept is other = absurd (other k refl)

-- none of the keys waits yet, one after another
abbrev pub Fresh : List (List ℕ) → List Item → Type 0
Fresh [] queue = Unit {0}
Fresh (k ∷ ks) queue = (list_any (is_record k) queue ≡ false) × Fresh ks (queue ++ item.Record k ∷ [])

abbrev pub NoneOf : List (List ℕ) → List Item → Type 0
NoneOf ks queue = AllByRecursion (λ (q : List ℕ). list_any (is_record q) queue ≡ false) ks

none_more : (k : List ℕ) (ks : List (List ℕ)) (queue : List Item) → AllByRecursion (λ (y : List ℕ). slice_cmp nat_cmp k y ≡ Less) ks → NoneOf ks queue → NoneOf ks (queue ++ item.Record k ∷ [])
none_more k [] queue below none = tt
none_more k (q ∷ ks) queue below none =
    (list_any-append (is_record q) queue (item.Record k ∷ []) ∙ ap (λ (b : Bool). b || (same_bytes k q || false)) none.0 ∙ ap (λ r. is_eq r || false) below.0, none_more k ks queue below.1 none.1)

-- keys in order of which none waits are fresh
pub fresh_of : (ks : List (List ℕ)) (queue : List Item) → IsStrictlySortedBy (slice_cmp nat_cmp) ks → NoneOf ks queue → Fresh ks queue
unfolding IsStrictlySortedBy
fresh_of [] queue order none = tt
fresh_of (k ∷ ks) queue order none = (none.0, fresh_of ks (queue ++ item.Record k ∷ []) order.1 (none_more k ks queue order.0 none.1))

pub none_of : (ks : List (List ℕ)) (queue : List Item) → ((q : List ℕ) → list_any (is_record q) queue ≡ false) → NoneOf ks queue
none_of [] queue none = tt
none_of (k ∷ ks) queue none = (none k, none_of ks queue none)
