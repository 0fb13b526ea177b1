-- Parts joined by `/`.
use Rattle.std.proofs.Common.{◌≡◌, ℕ, List, [], ◌∷◌, ◌++◌, map, flat_map, sym, ap, ◌∙◌, append_assoc, append-nil, Bor}
use Rattle.std.specs.List.{join_with_byte}

-- the parts after the first, each behind the byte
pub joined : (c : ℕ) (first : List ℕ) (more : List (Bor (List ℕ))) → join_with_byte c (first ∷ map (λ part. part.now) more) ≡ first ++ flat_map (λ part. c ∷ part.now) more
joined c first [] = sym (append-nil first)
joined c first (part ∷ more) = ap (λ rest. first ++ c ∷ rest) (joined c part.now more)

-- a beginning, the first part, and then the others
pub written : (front first begun bytes : List ℕ) (more : List (Bor (List ℕ))) → begun ≡ front ++ first → bytes ≡ begun ++ flat_map (λ part. 47 ∷ part.now) more → bytes ≡ front ++ join_with_byte 47 (first ∷ map (λ part. part.now) more)
written front first begun bytes more first_written all_written =
    all_written ∙ ap (λ b. b ++ flat_map (λ part. 47 ∷ part.now) more) first_written ∙ append_assoc front first _ ∙ ap (λ rest. front ++ rest) (sym (joined 47 first more))
