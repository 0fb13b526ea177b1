-- Bytes that stand for themselves in a word.
use Rattle.std.proofs.Common.{◌≡◌, ◌≢◌, ℕ, ◌<◌, ◌≤◌, ◌&&◌, Bool, true, false, List, [], ◌∷◌, length, flat_map, refl, ap, sym, ◌∙◌, arith, inl, inr}
use Rattle.std.specs.Prelude.{bytes_eq, nat_le, not, ◌==◌}
use Rattle.std.specs.List.{list_all}
use Rattle.std.proofs.lemmas.Bool.{and_parts, cases_Bool}
use Rattle.std.proofs.lemmas.Slice.Eq.{bytes_eq-Decides}
use Rattle.mesh_text.specs.Escapes.{escaped, escaped_byte}

-- visible ASCII other than `%`
abbrev pub is_plain : ℕ → Bool
is_plain b = nat_le 0x21 b && nat_le b 0x7E && not (b == 37)

-- plain bytes stand for themselves
pub plain_stay : (bytes : List ℕ) → list_all is_plain bytes ≡ true → flat_map escaped_byte bytes ≡ bytes
plain_stay [] plain = refl
plain_stay (b ∷ bs) plain =
    let parts = and_parts (is_plain b) (list_all is_plain bs) plain in
    rw parts.0 (ap (λ rest. b ∷ rest) (plain_stay bs parts.1))

-- nothing becomes shorter
no_less : (bytes : List ℕ) → length bytes ≤ length (flat_map escaped_byte bytes)
no_less [] = omega arith
no_less (b ∷ bs) =
    elim (cases_Bool (is_plain b)) [
      | inl plain ↦ rw plain (omega (arith, no_less bs))
      | inr other ↦ rw other (omega (arith, no_less bs))
    ]

-- and what is not plain longer
other_more : (bytes : List ℕ) → list_all is_plain bytes ≡ false → length bytes < length (flat_map escaped_byte bytes)
other_more [] other = cc
other_more (b ∷ bs) other =
    elim (cases_Bool (is_plain b)) [
      | inl plain ↦ rw plain (omega (arith, other_more bs (rw plain at other)))
      | inr bad ↦ rw bad (omega (arith, no_less bs))
    ]

-- no other bytes do
pub stay_plain : (bytes : List ℕ) → flat_map escaped_byte bytes ≡ bytes → list_all is_plain bytes ≡ true
stay_plain bytes same =
    elim (cases_Bool (list_all is_plain bytes)) [
      | inl plain ↦ plain
      | inr other ↦ absurd (omega (arith, other_more bytes other, ap length same))
    ]

-- the word for bytes that are neither none nor `-`
pub word_of : (bytes : List ℕ) → bytes ≢ [] → bytes ≢ 45 ∷ [] → escaped bytes ≡ flat_map escaped_byte bytes
unfolding escaped
word_of [] some other = absurd (some refl)
word_of (b ∷ bs) some other =
    elim (cases_Bool (bytes_eq (b ∷ bs) (45 ∷ []))) [
      | inl dash ↦ absurd (other ((bytes_eq-Decides (b ∷ bs) (45 ∷ [])).0 dash))
      | inr word ↦ rw word refl
    ]

-- the word for bytes that do not all stand for themselves
pub escaped_more : (bytes : List ℕ) → flat_map escaped_byte bytes ≢ bytes → escaped bytes ≡ flat_map escaped_byte bytes
escaped_more bytes other =
    word_of bytes (λ none. other (ap (flat_map escaped_byte) none ∙ sym none)) (λ dash. other (ap (flat_map escaped_byte) dash ∙ sym dash))
