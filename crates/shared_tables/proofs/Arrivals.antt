-- A map in order of arrival, and the finite map that answers alike.
use Rattle.std.proofs.Common.{◌≡◌, ℕ, ◌+◌, List, [], ◌∷◌, length, Bool, false, cond, Option, None, Some, nat_eq, refl, ap, sym, ◌∙◌, arith}
use Rattle.std.specs.declared.cmp.Ordering.{Ordering}
use Rattle.std.specs.declared.cmp.Ordering.TheVariants.{Less, Equal, Greater}
use Rattle.std.specs.Ordering.{nat_cmp, is_eq, eq_by_cmp}
use Rattle.std.specs.Cmp.{eq_by_cmp_equiv}
use Rattle.std.specs.Cmp.Lexicographic.{slice_cmp, pointwise, texts_ties, nat_list_cmp_total}
use Rattle.std.specs.List.{sum_by, AllByRecursion, IsDistinct}
use Rattle.std.specs.Map.{lookup, keys_of}
use Rattle.std.specs.HashMap.{HashMap, Updates}
use Rattle.std.specs.FinMap as map1
use Rattle.std.specs.FinMap.{from_entries, entries, empty, same_map, slice_cmp-IsAntisymmetric, nat_cmp-IsAntisymmetric, IsAntisymmetric, get-insert, get-remove, get-from_entries, get-entries, entries-insert, len-entries, len-empty}
use Rattle.std.specs.FinMap.Entries.{find, put, by_order}
use Rattle.std.proofs.lemmas.List.Sums.{sum_by-cons}
use Rattle.shared_tables.specs.Rows.{SameRows}

abbrev order : List ℕ → List ℕ → Ordering
order = slice_cmp nat_cmp

abbrev same : List ℕ → List ℕ → Bool
same = pointwise nat_eq

order_antisymmetric : IsAntisymmetric order
order_antisymmetric = slice_cmp-IsAntisymmetric nat_cmp-IsAntisymmetric

pub same_test : (k q : List ℕ) → eq_by_cmp order q k ≡ same k q
same_test k q = (eq_by_cmp_equiv nat_list_cmp_total).symm q k ∙ sym (texts_ties k q)

module _ {X : Type 0} where
  find_is : (q : List ℕ) (es : List (List ℕ × X)) → find order q es ≡ lookup (same q) es
  find_is q [] = refl
  find_is q (e ∷ es) = ap (λ (b : Bool). cond b (Some e.1) (find order q es)) (sym (texts_ties q e.0)) ∙ ap (cond (same q e.0) (Some e.1)) (find_is q es)

  pub get_arrived : (es : List (List ℕ × X)) (q : List ℕ) → map1.get (from_entries {R = order} es) q ≡ lookup (same q) es
  get_arrived es q = get-from_entries nat_list_cmp_total es q ∙ find_is q es

  module _ {S : Type 0} where
    pub inserted : (m n : HashMap (List ℕ) X S) (k : List ℕ) (v : X) → Updates same m n k (Some v) → from_entries {R = order} n.entries ≡ map1.insert (from_entries m.entries) k v
    inserted m n k v h = same_map nat_list_cmp_total order_antisymmetric _ _ (λ q. get_arrived n.entries q ∙ h.0 q ∙ ap (λ (o : Option X). cond (same k q) (Some v) o) (sym (get_arrived m.entries q)) ∙ ap (λ (b : Bool). cond b (Some v) (map1.get (from_entries {R = order} m.entries) q)) (sym (same_test k q)) ∙ sym (get-insert nat_list_cmp_total (from_entries m.entries) k v q))

    pub removed : (m n : HashMap (List ℕ) X S) (k : List ℕ) → Updates same m n k None → from_entries {R = order} n.entries ≡ map1.remove (from_entries m.entries) k
    removed m n k h = same_map nat_list_cmp_total order_antisymmetric _ _ (λ q. get_arrived n.entries q ∙ h.0 q ∙ ap (λ (o : Option X). cond (same k q) None o) (sym (get_arrived m.entries q)) ∙ ap (λ (b : Bool). cond b None (map1.get (from_entries {R = order} m.entries) q)) (sym (same_test k q)) ∙ sym (get-remove nat_list_cmp_total (from_entries m.entries) k q))

  -- the entries in order of keys are those that arrived, in another order
  weigh_put : (weight : List ℕ × X → ℕ) (k : List ℕ) (v : X) (es : List (List ℕ × X)) → find order k es ≡ None → sum_by weight (put order k v es) ≡ weight (k, v) + sum_by weight es
  weigh_put weight k v [] = λ h. sum_by-cons weight (k, v) []
  weigh_put weight k v (e ∷ es) = elim (order k e.0) as (λ r. cond (is_eq r) (Some e.1) (find order k es) ≡ None → sum_by weight (by_order r ((k, v) ∷ e ∷ es) ((e.0, v) ∷ es) (e ∷ put order k v es)) ≡ weight (k, v) + sum_by weight (e ∷ es)) [
    | Less ↦ λ h. sum_by-cons weight (k, v) (e ∷ es)
    | Equal ↦ λ h. cc
    | Greater ↦ λ h. omega (arith, sum_by-cons weight e (put order k v es), weigh_put weight k v es h, sum_by-cons weight e es)
  ]

  none_found : (k : List ℕ) (es : List (List ℕ × X)) → AllByRecursion (λ (y : List ℕ). same k y ≡ false) (keys_of es) → lookup (same k) es ≡ None
  none_found k [] h = refl
  none_found k (e ∷ es) h = ap (λ (b : Bool). cond b (Some e.1) (lookup (same k) es)) h.0 ∙ none_found k es h.1

  weigh_none : (weight : List ℕ × X → ℕ) (es : List (List ℕ × X)) → length es ≡ 0 → sum_by weight es ≡ 0
  weigh_none weight [] h = refl
  weigh_none weight (e ∷ es) h = absurd (omega arith)

  pub same_entries : (es : List (List ℕ × X)) → IsDistinct same (keys_of es) → SameRows (entries (from_entries {R = order} es)) es
  unfolding IsDistinct
  same_entries [] h = record { weigh = λ weight. weigh_none weight _ (sym (len-entries (empty {X = X} {R = order})) ∙ len-empty order X) }
  same_entries (e ∷ es) h = record {
    weigh = λ weight.
        let absent : find order e.0 (entries (from_entries es)) ≡ None = sym (get-entries (from_entries es) e.0) ∙ get_arrived es e.0 ∙ none_found e.0 es h.0 in
        ap (sum_by weight) (entries-insert nat_list_cmp_total (from_entries es) e.0 e.1) ∙ omega (arith, weigh_put weight e.0 e.1 _ absent, (same_entries es h.1).weigh weight, sum_by-cons weight e es);
  }
