-- Lists that are read item by item.
use Rattle.std.proofs.Common.{◌≡◌, ℕ, zero, suc, ◌<◌, List, [], ◌∷◌, ◌++◌, map, length, All, slice_index_or, ap, arith}

-- one item more is read
pub grown : {A C : Type 0} (f : A → C) (made : List A) (x : A) (c : C) (rest : List C) → f x ≡ c → map f (made ++ x ∷ []) ++ rest ≡ map f made ++ (c ∷ rest)
grown {C = C} f [] x c rest same = ap (λ (d : C). d ∷ rest) same
grown {C = C} f (m ∷ made) x c rest same = ap (λ (l : List C). f m ∷ l) (grown f made x c rest same)

first_all : {A : Type 0} (P : A → Type 0) (m : A) (rest : List A) → P m → All P rest → All P (m ∷ rest)
first_all {A = A} P m rest p h = λ k d lt. go k d lt
  where
    go : (k : ℕ) (d : A) → k < length (m ∷ rest) → P (slice_index_or (m ∷ rest) k d)
    go zero d lt = p
    go (suc k) d lt = h k d (omega arith)

none_all : {A : Type 0} (P : A → Type 0) → All P []
none_all P = λ k d lt. absurd (omega arith)

-- what holds of all holds with one more of which it holds
pub all-more : {A : Type 0} (P : A → Type 0) (made : List A) (x : A) → All P made → P x → All P (made ++ x ∷ [])
all-more P [] x h p = first_all P x [] p (none_all P)
all-more P (m ∷ made) x h p = first_all P m (made ++ x ∷ []) (h zero m (omega arith)) (all-more P made x (λ j e l. h (suc j) e (omega arith)) p)
