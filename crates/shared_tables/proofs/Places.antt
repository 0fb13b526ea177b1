-- A list with a change at one place.
use Rattle.std.proofs.Common.{◌≡◌, ℕ, zero, suc, ◌<◌, List, [], ◌∷◌, length, map, get_or, Result, Ok, Err, OnErr, ap, ◌∙◌, subst, arith}
use Rattle.std.proofs.Math.ListN.{set}
use Rattle.std.proofs.lemmas.List.{length-map}
use Rattle.shared_tables.specs.Told.{changed_at}

module _ {X Y : Type 0} (g : X → Y) where
  pub place_in : (xs : List X) (place : ℕ) → place < length (map g xs) → place < length xs
  place_in xs place lt = subst (λ (n : ℕ). place < n) (length-map xs g) lt

  -- where the element is changed, so is what is seen of it
  pub map_changed : (change : Y → Y) (xs : List X) (place : ℕ) (x y : X) → x ≡ get_or xs place x → place < length xs → g y ≡ change (g x) → map g (set xs place y) ≡ changed_at change place (map g xs)
  map_changed change [] place x y e lt h = absurd (omega arith)
  map_changed change (z ∷ xs) zero x y e lt h = ap (λ (w : Y). w ∷ map g xs) (h ∙ ap (λ (w : X). change (g w)) e)
  map_changed change (z ∷ xs) (suc place) x y e lt h = ap (λ (ws : List Y). g z ∷ ws) (map_changed change xs place x y e (omega arith) h)

  -- what is seen of it may stay
  pub map_same : (xs : List X) (place : ℕ) (x y : X) → x ≡ get_or xs place x → place < length xs → g y ≡ g x → map g (set xs place y) ≡ map g xs
  map_same [] place x y e lt h = absurd (omega arith)
  map_same (z ∷ xs) zero x y e lt h = ap (λ (w : Y). w ∷ map g xs) (h ∙ ap g e)
  map_same (z ∷ xs) (suc place) x y e lt h = ap (λ (ws : List Y). g z ∷ ws) (map_same xs place x y e (omega arith) h)

pub on_err : {A E : Type 0} (r : Result A E) {P : Type 0} → P → OnErr r P
on_err (Ok a) p = tt
on_err (Err e) p = p
