-- How many words there are, and which fixed word stands among them.
use Rattle.std.proofs.Common.{◌≡◌, ◌+◌, ◌-◌, ◌<◌, ℕ, suc, true, false, List, [], ◌∷◌, codes, bytes_eq, refl, arith}
use Rattle.std.specs.List.{list_all}
use Rattle.std.proofs.lemmas.Slice.Eq.{bytes_eq-Decides}
use Rattle.scenario_lang.specs.Answers.{has}

pub has_more : (n i : ℕ) (w : List ℕ) (ws : List (List ℕ)) → i < n → has (n - i) (w ∷ ws) ≡ has (n - (i + 1)) ws
has_more n i w ws h = let e : n - i ≡ suc (n - (i + 1)) = omega arith in rw e refl

pub has_none : (n i : ℕ) → i < n → has (n - i) [] ≡ false
has_none n i h = let e : n - i ≡ suc (n - (i + 1)) = omega arith in rw e refl

-- there is no third word beside `put` and `delete`
pub put_or_delete : (w : List ℕ) → bytes_eq w (codes "put") ≡ true → bytes_eq w (codes "delete") ≡ false
put_or_delete w e = let is : w ≡ codes "put" = (bytes_eq-Decides w (codes "put")).0 e in rw is refl

pub all_pass : (ws : List (List ℕ)) → list_all (λ (w : List ℕ). true) ws ≡ true
all_pass [] = refl
all_pass (w ∷ ws) = all_pass ws
