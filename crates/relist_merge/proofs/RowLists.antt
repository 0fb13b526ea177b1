-- The rows as a list of pairs.
use Rattle.std.proofs.Common.{◌≡◌, ℕ, List, [], ◌∷◌, map, Bool, true, false, cond, nat_eq, Option, None, Some, option_map, refl, ap, sym, ◌∙◌, subst}
use Rattle.std.proofs.Math.Path.{fun_ext}
use Rattle.std.specs.Cmp.{eq_by_cmp_equiv}
use Rattle.std.specs.Cmp.Lexicographic.{nat_list_cmp_total, pointwise}
use Rattle.std.proofs.Common.{Result, Ok, Err}
use Rattle.std.specs.List.{IsDistinct}
use Rattle.std.specs.Result.{IfOk}
use Rattle.std.specs.Map.{keys_of}
use Rattle.mesh_base.specs.Order.{same_bytes}
use Rattle.relist_merge.specs.Deliveries.{listed}
use Rattle.relist_merge.specs.Shown.{entry_in, entry_of, is_fresh, pair_of, row_at}
use Rattle.relist_merge.specs.View.{IsListOf, value_of, values}
use Rattle.relist_merge.specs.declared.rows.Row.{Row}
use Rattle.relist_merge.proofs.Places.{same_keys}

keys-pairs : (rows : List (List ℕ × Row)) → keys_of (map pair_of rows) ≡ keys_of rows
keys-pairs [] = refl
keys-pairs (e ∷ rows) = ap (λ (ks : List (List ℕ)). e.0 ∷ ks) (keys-pairs rows)

one-value : (e : List ℕ × Row) (b : Bool) (o : Option Row) → cond b (Some e.1.value) (option_map (λ (row : Row). row.value) o) ≡ option_map (λ (row : Row). row.value) (cond b (Some e.1) o)
one-value e true o = refl
one-value e false o = refl

same-test : (key k : List ℕ) → same_bytes key k ≡ pointwise nat_eq k key
same-test key k = (eq_by_cmp_equiv nat_list_cmp_total).symm key k ∙ sym (same_keys k key)

listed-rows : (k : List ℕ) (rows : List (List ℕ × Row)) → listed (map pair_of rows) k ≡ option_map (λ (row : Row). row.value) (row_at rows k)
listed-rows k [] = refl
listed-rows k (e ∷ rows) =
    ap (λ (b : Bool). cond b (Some e.1.value) (listed (map pair_of rows) k)) (same-test e.0 k)
    ∙ ap (cond (pointwise nat_eq k e.0) (Some e.1.value)) (listed-rows k rows)
    ∙ one-value e (pointwise nat_eq k e.0) (row_at rows k)

-- the value of an entry is that of its row
pub value-entry : (o : Option Row) (b : Bool) → value_of (entry_of o b) ≡ option_map (λ (row : Row). row.value) o
value-entry None b = refl
value-entry (Some row) b = refl

distinct-pairs : (rows : List (List ℕ × Row)) → IsDistinct (pointwise nat_eq) (keys_of rows) → IsDistinct same_bytes (keys_of (map pair_of rows))
distinct-pairs rows distinct =
    let same : pointwise nat_eq ≡ same_bytes = fun_ext (λ a. fun_ext (λ b. same_keys a b)) in
    subst (IsDistinct same_bytes) (sym (keys-pairs rows)) (subst (λ (test : List ℕ → List ℕ → Bool). IsDistinct test (keys_of rows)) same distinct)

-- the rows' keys and values are what the view has, each key once
pub rows-list : (n : ℕ) (rows : List (List ℕ × Row)) (list : List (List ℕ × List ℕ)) → list ≡ map pair_of rows → IsDistinct (pointwise nat_eq) (keys_of rows) → IsListOf list (values (λ k. entry_in n rows k))
rows-list n rows list is distinct = subst (λ (l : List (List ℕ × List ℕ)). IsListOf l (values (λ k. entry_in n rows k))) (sym is) (record {
  distinct = distinct-pairs rows distinct;
  values = λ k. listed-rows k rows ∙ sym (value-entry (row_at rows k) (is_fresh n rows k));
})

-- what follows from a success
pub on-ok : {A E : Type 0} {P Q : A → Type 0} (r : Result A E) → ((x : A) → P x → Q x) → IfOk r P → IfOk r Q
on-ok (Ok x) then is = then x is
on-ok (Err why) then is = is
