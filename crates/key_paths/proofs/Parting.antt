-- Splitting at each `/`.
use Rattle.std.proofs.Common.{◌≡◌, ℕ, ◌+◌, ◌==◌, Bool, true, false, List, [], ◌∷◌, length, take, drop, cond, ◌-◌, Some, None, refl, arith, length-drop, take_all}
use Rattle.std.specs.List.{position}
use Rattle.std.proofs.lemmas.Bool.{ltb-false}
use Rattle.std.proofs.lemmas.List.Quantifiers.{position-Some}
use Rattle.std.proofs.lemmas.List.Sums.{position_or_len_is, fails_before_first}
use Rattle.std.proofs.lemmas.List.Elements.{All-from_get_or}
use Rattle.std.proofs.lemmas.List.Splits.{slice_split_none, slice_split_first}
use Rattle.mesh_text.specs.Addresses.{split_at}

-- the first part ends before the first `/`
pub split_some : (bytes : List ℕ) (n : ℕ) → position (λ c. c == 47) bytes ≡ Some n → split_at 47 bytes ≡ take n bytes ∷ split_at 47 (drop (n + 1) bytes)
split_some bytes n h =
    let found = position-Some (λ c. c == 47) bytes n 0 h in
    let place = position_or_len_is (λ c. c == 47) bytes n 0 (omega (arith, found.0)) found.2 (λ _. found.1) in
    let first = slice_split_first (λ c. c == 47) bytes 0 (rw place found.0) in
    rw place at first

position-none : (b : Bool) (i : ℕ) → cond b (Some i) None ≡ None → b ≡ false
position-none true i h = cc
position-none false i h = refl

-- where no `/` is, there is one part
pub split_none : (bytes : List ℕ) → position (λ c. c == 47) bytes ≡ None → split_at 47 bytes ≡ bytes ∷ []
split_none bytes h =
    let past = position-none _ _ h in
    slice_split_none (λ c. c == 47) bytes (All-from_get_or (λ c. (c == 47) ≡ false) bytes 0 (λ i l. fails_before_first (λ c. c == 47) bytes i 0 (omega (arith, ltb-false _ _ past))))

-- what a slice from a place to the end has
pub drop-all : (bytes : List ℕ) (n : ℕ) → take (length bytes - n) (drop n bytes) ≡ drop n bytes
drop-all bytes n = take_all _ _ (omega (arith, length-drop n bytes))
