-- Rows that are the same up to order.
use Rattle.std.proofs.Common.{◌≡◌, ℕ, ◌+◌, List, [], ◌∷◌, ◌++◌, map, filter, Bool, true, false, cond, ◌||◌, nat_lt, refl, ap, sym, ◌∙◌, arith}
use Rattle.std.specs.List.{sum_by, list_any, flat_map}
use Rattle.std.proofs.lemmas.List.Sums.{sum_by-cons, sum_by-append}
use borrow.Author.Tests.{lt-ltb}
use Rattle.shared_tables.specs.Rows.{SameRows}

module _ {X : Type 0} where
  pub SameRows-refl : (xs : List X) → SameRows xs xs
  SameRows-refl xs = record { weigh = λ weight. refl }

  pub SameRows-append : (xs ys us vs : List X) → SameRows xs ys → SameRows us vs → SameRows (xs ++ us) (ys ++ vs)
  SameRows-append xs ys us vs a b = record { weigh = λ weight. omega (arith, sum_by-append weight xs us, sum_by-append weight ys vs, a.weigh weight, b.weigh weight) }

module _ {X Y : Type 0} where
  pub sum_by-flat_map : (weight : Y → ℕ) (f : X → List Y) (xs : List X) → sum_by weight (flat_map f xs) ≡ sum_by (λ x. sum_by weight (f x)) xs
  sum_by-flat_map weight f [] = refl
  sum_by-flat_map weight f (x ∷ xs) = sum_by-append weight (f x) (flat_map f xs) ∙ ap (λ n. sum_by weight (f x) + n) (sum_by-flat_map weight f xs) ∙ sym (sum_by-cons (λ y. sum_by weight (f y)) x xs)

  pub SameRows-flat_map : (f : X → List Y) (xs ys : List X) → SameRows xs ys → SameRows (flat_map f xs) (flat_map f ys)
  SameRows-flat_map f xs ys h = record { weigh = λ weight. sum_by-flat_map weight f xs ∙ h.weigh (λ x. sum_by weight (f x)) ∙ sym (sum_by-flat_map weight f ys) }

  pub sum_by-map : (weight : Y → ℕ) (f : X → Y) (xs : List X) → sum_by weight (map f xs) ≡ sum_by (λ x. weight (f x)) xs
  sum_by-map weight f [] = refl
  sum_by-map weight f (x ∷ xs) = sum_by-cons weight (f x) (map f xs) ∙ ap (λ n. weight (f x) + n) (sum_by-map weight f xs) ∙ sym (sum_by-cons (λ y. weight (f y)) x xs)

  pub SameRows-map : (f : X → Y) (xs ys : List X) → SameRows xs ys → SameRows (map f xs) (map f ys)
  SameRows-map f xs ys h = record { weigh = λ weight. sum_by-map weight f xs ∙ h.weigh (λ x. weight (f x)) ∙ sym (sum_by-map weight f ys) }

module _ {X : Type 0} where
  weigh_cond : (weight : X → ℕ) (b : Bool) (x : X) (xs : List X) → sum_by weight (cond b (x ∷ xs) xs) ≡ cond b (weight x) 0 + sum_by weight xs
  weigh_cond weight true x xs = sum_by-cons weight x xs
  weigh_cond weight false x xs = omega arith

  pub sum_by-filter : (weight : X → ℕ) (p : X → Bool) (xs : List X) → sum_by weight (filter p xs) ≡ sum_by (λ x. cond (p x) (weight x) 0) xs
  sum_by-filter weight p [] = refl
  sum_by-filter weight p (x ∷ xs) = weigh_cond weight (p x) x (filter p xs) ∙ ap (λ n. cond (p x) (weight x) 0 + n) (sum_by-filter weight p xs) ∙ sym (sum_by-cons (λ y. cond (p y) (weight y) 0) x xs)

  pub SameRows-filter : (p : X → Bool) (xs ys : List X) → SameRows xs ys → SameRows (filter p xs) (filter p ys)
  SameRows-filter p xs ys h = record { weigh = λ weight. sum_by-filter weight p xs ∙ h.weigh (λ x. cond (p x) (weight x) 0) ∙ sym (sum_by-filter weight p ys) }

  -- whether any passes, by how many pass
  pub any_or_none : (test : X → Bool) (xs : List X) → list_any test xs ≡ nat_lt 0 (sum_by (λ x. cond (test x) 1 0) xs)
  any_or_none test [] = refl
  any_or_none test (x ∷ xs) = elim (test x) as (λ b. test x ≡ b → (b || list_any test xs) ≡ nat_lt 0 (sum_by (λ x. cond (test x) 1 0) (x ∷ xs))) [
    | true ↦ λ e. sym (lt-ltb 0 _ (omega (arith, sum_by-cons {X = X} (λ x. cond (test x) 1 0) x xs, ap {B = ℕ} (λ b. cond b 1 0) e)))
    | false ↦ λ e. any_or_none test xs ∙ ap (nat_lt 0) (omega (arith, sum_by-cons {X = X} (λ x. cond (test x) 1 0) x xs, ap {B = ℕ} (λ b. cond b 1 0) e))
  ] refl

  pub list_any-SameRows : (test : X → Bool) (xs ys : List X) → SameRows xs ys → list_any test xs ≡ list_any test ys
  list_any-SameRows test xs ys h = any_or_none test xs ∙ ap (nat_lt 0) (h.weigh (λ x. cond (test x) 1 0)) ∙ sym (any_or_none test ys)
