-- Rows, whatever their order.
use Rattle.std.specs.Prelude.{◌≡◌, ℕ, List, sum_by}

-- the same rows, each as often: every weighing of rows gives both the same total
pub record SameRows {X : Type 0} (xs ys : List X) : Type 0 where
  pub weigh : (weight : X → ℕ) → sum_by weight xs ≡ sum_by weight ys
