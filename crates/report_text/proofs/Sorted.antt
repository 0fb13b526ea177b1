-- Lists in order with the same elements are equal.
use Rattle.std.proofs.Common.{◌≡◌, ℕ, zero, suc, ◌+◌, ◌≤◌, ◌<◌, List, [], ◌∷◌, get_or, length, true, false, cond, refl, ap, sym, ◌∙◌, subst, arith}
use Rattle.std.specs.declared.cmp.Ordering.{Ordering}
use Rattle.std.specs.declared.cmp.Ordering.TheVariants.{Less, Equal, Greater}
use Rattle.std.specs.Ordering.{is_lt, ordering_reverse}
use Rattle.std.specs.Cmp.{IsTotalOrder}
use Rattle.std.specs.FinMap.{IsAntisymmetric}
use Rattle.std.specs.List.{sum_by}
use Rattle.std.specs.List.Sorted.{IsSorted}
use Rattle.std.proofs.lemmas.List.Sums.{sum_by-cons, sum_by-le-sum_by}
use Rattle.shared_tables.specs.Rows.{SameRows}
use Rattle.report_text.specs.Lines.{placed, sorted_by}

one_zero : ◌≡◌ {A = ℕ} 1 0 → ⊥
one_zero e = omega arith

module _ {X : Type 0} (R : X → X → Ordering) (o : IsTotalOrder R) (exact : IsAntisymmetric R) where
  abbrev below : X → X → ℕ
  below x z = cond (is_lt (R z x)) 1 0

  -- none of the list is below x
  abbrev Low : X → List X → Type 0
  Low x zs = sum_by (below x) zs ≡ 0

  abbrev Up : List X → Type 0
  Up [] = Unit {0}
  Up (x ∷ xs) = Low x xs × Up xs

  less_of : (r : Ordering) → is_lt r ≡ true → r ≡ Less
  less_of Less h = refl
  less_of Equal h = cc
  less_of Greater h = cc

  -- one below x is below each that isn't below x
  chained : (z x l : X) → is_lt (R l x) ≡ false → is_lt (R z x) ≡ true → is_lt (R z l) ≡ true
  chained z x l = elim (R x l) as (λ r. R x l ≡ r → is_lt (R l x) ≡ false → is_lt (R z x) ≡ true → is_lt (R z l) ≡ true) [
    | Less ↦ λ e a b. ap is_lt (o.trans z x l (less_of (R z x) b) e)
    | Equal ↦ λ e a b. ap is_lt (o.antisymm z l ∙ ap ordering_reverse (sym (o.congr x l z e)) ∙ sym (o.antisymm z x)) ∙ b
    | Greater ↦ λ e a b. let less : is_lt (R l x) ≡ true = ap is_lt (o.antisymm l x ∙ ap ordering_reverse e) in cc
  ] refl

  not_both : (x y : X) → is_lt (R y x) ≡ true → is_lt (R x y) ≡ false
  not_both x y h = ap is_lt (o.antisymm x y ∙ ap ordering_reverse (less_of (R y x) h))

  same_of : (x y : X) → is_lt (R x y) ≡ false → is_lt (R y x) ≡ false → x ≡ y
  same_of x y = elim (R x y) as (λ r. R x y ≡ r → is_lt r ≡ false → is_lt (R y x) ≡ false → x ≡ y) [
    | Less ↦ λ e a b. cc
    | Equal ↦ λ e a b. exact x y e
    | Greater ↦ λ e a b. let less : is_lt (R y x) ≡ true = ap is_lt (o.antisymm y x ∙ ap ordering_reverse e) in cc
  ] refl

  below-le : (x l : X) → is_lt (R l x) ≡ false → (z : X) → below x z ≤ below l z
  below-le x l a z = elim (is_lt (R z x)) as (λ b. is_lt (R z x) ≡ b → cond b 1 0 ≤ below l z) [ true ↦ λ e. omega (arith, ap {B = ℕ} (λ b. cond b 1 0) (chained z x l a e)) | false ↦ λ e. omega arith ] refl

  below-zero : (x y : X) → is_lt (R y x) ≡ false → below x y ≡ 0
  below-zero x y h = ap (λ b. cond b 1 0) h

  zero-below : (x y : X) → below x y ≡ 0 → is_lt (R y x) ≡ false
  zero-below x y = elim (is_lt (R y x)) as (λ b. ◌≡◌ {A = ℕ} (cond b 1 0) 0 → b ≡ false) [ true ↦ λ e. absurd (one_zero e) | false ↦ λ e. refl ]

  low_more : (x l : X) (zs : List X) → is_lt (R l x) ≡ false → Low l zs → Low x zs
  low_more x l zs a low = omega (arith, sum_by-le-sum_by (below x) (below l) zs (below-le x l a))

  weigh_placed : (weight : X → ℕ) (x : X) (ys : List X) → sum_by weight (placed R x ys) ≡ weight x + sum_by weight ys
  weigh_placed weight x [] = sum_by-cons weight x []
  weigh_placed weight x (y ∷ ys) = elim (is_lt (R y x)) as (λ b. sum_by weight (cond b (y ∷ placed R x ys) (x ∷ y ∷ ys)) ≡ weight x + sum_by weight (y ∷ ys)) [
    | true ↦ omega (arith, sum_by-cons weight y (placed R x ys), weigh_placed weight x ys, sum_by-cons weight y ys)
    | false ↦ sum_by-cons weight x (y ∷ ys)
  ]

  low_cons : (x y : X) (ys : List X) → is_lt (R y x) ≡ false → Low x ys → Low x (y ∷ ys)
  low_cons x y ys h low = omega (arith, sum_by-cons (below x) y ys, below-zero x y h)

  up_placed : (x : X) (ys : List X) → Up ys → Up (placed R x ys)
  up_placed x [] h = (refl, tt)
  up_placed x (y ∷ ys) h = elim (is_lt (R y x)) as (λ b. is_lt (R y x) ≡ b → Up (cond b (y ∷ placed R x ys) (x ∷ y ∷ ys))) [
    | true ↦ λ e. (omega (arith, weigh_placed (below y) x ys, below-zero y x (not_both x y e), h.0), up_placed x ys h.1)
    | false ↦ λ e. (low_cons x y ys e (low_more x y ys e h.0), h)
  ] refl

  up_sorted : (xs : List X) → Up (sorted_by R xs)
  up_sorted [] = tt
  up_sorted (x ∷ xs) = up_placed x (sorted_by R xs) (up_sorted xs)

  pub weigh_sorted : (weight : X → ℕ) (xs : List X) → sum_by weight (sorted_by R xs) ≡ sum_by weight xs
  weigh_sorted weight [] = refl
  weigh_sorted weight (x ∷ xs) = omega (arith, weigh_placed weight x (sorted_by R xs), weigh_sorted weight xs, sum_by-cons weight x xs)

  -- from what a sort ensures
  up_rest : (x y : X) (ys : List X) → is_lt (R y x) ≡ false → Low y ys → Low x (y ∷ ys)
  up_rest x y ys h low = low_cons x y ys h (low_more x y ys h low)

  tail_sorted : (x : X) (xs : List X) → IsSorted R (x ∷ xs) → IsSorted R xs
  tail_sorted x xs h = λ k d low lt. let next : suc k + 1 ≡ suc (k + 1) = omega arith in subst (λ (n : ℕ). is_lt (R (get_or (x ∷ xs) n d) (get_or (x ∷ xs) (suc k) d)) ≡ false) next (h (suc k) d (omega arith) (omega arith))

  up_of : (xs : List X) → IsSorted R xs → Up xs
  up_of [] h = tt
  up_of (x ∷ []) h = (refl, tt)
  up_of (x ∷ y ∷ ys) h = let rest : Up (y ∷ ys) = up_of (y ∷ ys) (tail_sorted x (y ∷ ys) h) in (up_rest x y ys (h 0 x (omega arith) (omega arith)) rest.0, rest)

  none_above : (x y : X) (ys : List X) → Low x (y ∷ ys) → is_lt (R y x) ≡ false
  none_above x y ys low = zero-below x y (omega (arith, low, sum_by-cons (below x) y ys))

  rising : (xs : List X) → Up xs → (k : ℕ) (d : X) → k + 1 < length xs → is_lt (R (get_or xs (k + 1) d) (get_or xs k d)) ≡ false
  rising [] h k d lt = absurd (omega (arith, lt))
  rising (x ∷ []) h k d lt = absurd (omega (arith, lt))
  rising (x ∷ y ∷ ys) h zero d lt = none_above x y ys h.0
  rising (x ∷ y ∷ ys) h (suc k) d lt = let next : suc k + 1 ≡ suc (k + 1) = omega arith in subst (λ (n : ℕ). is_lt (R (get_or (x ∷ y ∷ ys) n d) (get_or (x ∷ y ∷ ys) (suc k) d)) ≡ false) (sym next) (rising (y ∷ ys) h.1 k d (omega arith))

  apart_nil : (y : X) (ys : List X) → SameRows [] (y ∷ ys) → ⊥
  apart_nil y ys h = omega (arith, h.weigh (λ _. 1), sum_by-cons (λ (_ : X). 1) y ys)

  head_not_below : (x y : X) (xs ys : List X) → Low x xs → SameRows (x ∷ xs) (y ∷ ys) → is_lt (R x x) ≡ false → is_lt (R y x) ≡ false
  head_not_below x y xs ys low h itself = zero-below x y (omega (arith, h.weigh (below x), sum_by-cons (below x) x xs, sum_by-cons (below x) y ys, below-zero x x itself, low))

  not_below_itself : (x : X) → is_lt (R x x) ≡ false
  not_below_itself x = elim (is_lt (R x x)) as (λ b. is_lt (R x x) ≡ b → b ≡ false) [ true ↦ λ e. sym e ∙ not_both x x e | false ↦ λ e. refl ] refl

  unique : (xs ys : List X) → Up xs → Up ys → SameRows xs ys → xs ≡ ys
  unique [] [] u v h = refl
  unique [] (y ∷ ys) u v h = absurd (apart_nil y ys h)
  unique (x ∷ xs) [] u v h = absurd (apart_nil x xs (record { weigh = λ weight. sym (h.weigh weight) }))
  unique (x ∷ xs) (y ∷ ys) u v h =
      let first : x ≡ y = same_of x y (head_not_below y x ys xs v.0 (record { weigh = λ weight. sym (h.weigh weight) }) (not_below_itself y)) (head_not_below x y xs ys u.0 h (not_below_itself x)) in
      let rest : xs ≡ ys = unique xs ys u.1 v.1 (record { weigh = λ weight. omega (arith, h.weigh weight, sum_by-cons weight x xs, sum_by-cons weight y ys, ap weight first) }) in
      cc

  -- what a sort leaves is the list in order
  pub sorted_is : (xs ys : List X) → SameRows xs ys → IsSorted R ys → ys ≡ sorted_by R xs
  sorted_is xs ys h up = unique ys (sorted_by R xs) (up_of ys up) (up_sorted xs) (record { weigh = λ weight. sym (h.weigh weight) ∙ sym (weigh_sorted weight xs) })

  -- lists with the same elements are the same in order
  pub sorted_same : (xs ys : List X) → SameRows xs ys → sorted_by R xs ≡ sorted_by R ys
  sorted_same xs ys h = unique (sorted_by R xs) (sorted_by R ys) (up_sorted xs) (up_sorted ys) (record { weigh = λ weight. weigh_sorted weight xs ∙ h.weigh weight ∙ sym (weigh_sorted weight ys) })

  -- the list in order has no element below the one before it
  pub sorted_up : (xs : List X) → IsSorted R (sorted_by R xs)
  sorted_up xs = λ k d low lt. rising (sorted_by R xs) (up_sorted xs) k d lt
