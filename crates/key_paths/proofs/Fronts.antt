-- Whether bytes begin with several fronts, one behind the other.
use Rattle.std.proofs.Common.{◌≡◌, ℕ, Bool, true, false, ◌&&◌, nat_eq, List, [], ◌∷◌, ◌++◌, length, drop, refl}
use Rattle.std.specs.List.{starts_with}

-- bytes begin with two fronts where they begin with the first, and what follows it with the second
pub starts_both : (front end bytes : List ℕ) → starts_with nat_eq bytes (front ++ end) ≡ (starts_with nat_eq bytes front && starts_with nat_eq (drop (length front) bytes) end)
starts_both [] end bytes = refl
starts_both (c ∷ front) end [] = refl
starts_both (c ∷ front) end (x ∷ bytes) = by_first (nat_eq c x) (starts_both front end bytes)
  where
    by_first : (same : Bool) → starts_with nat_eq bytes (front ++ end) ≡ (starts_with nat_eq bytes front && starts_with nat_eq (drop (length front) bytes) end)
        → (same && starts_with nat_eq bytes (front ++ end)) ≡ ((same && starts_with nat_eq bytes front) && starts_with nat_eq (drop (length front) bytes) end)
    by_first true later = later
    by_first false later = refl

pub drop_both : (front end bytes : List ℕ) → drop (length (front ++ end)) bytes ≡ drop (length end) (drop (length front) bytes)
drop_both [] end bytes = refl
drop_both (c ∷ front) [] [] = refl
drop_both (c ∷ front) (d ∷ end) [] = refl
drop_both (c ∷ front) end (x ∷ bytes) = drop_both front end bytes
