-- Words and the bytes that they stand for.
use Rattle.std.proofs.Common.{◌≡◌, ◌≢◌, ℕ, ◌+◌, ◌*◌, ◌/◌, ◌%◌, ◌<◌, ◌≤◌, ◌&&◌, Bool, true, false, List, [], ◌∷◌, ◌++◌, length, flat_map, All, Option, Some, None, option_map, refl, sym, ◌∙◌, ap, arith, inl, inr, append_assoc, eq-eqb, ne_eqb, lt-ltb}
use Rattle.std.specs.Prelude.{bytes_eq, nat_le, not, ◌==◌}
use Rattle.std.specs.Char.{is_digit, digit_value}
use Rattle.std.specs.Fmt.{digit_glyph}
use Rattle.std.proofs.lemmas.Bool.{and_parts, not-true, leb-true, cases_Bool, true≢false, false_from_ne_true}
use Rattle.std.proofs.lemmas.Bool.Decides.{nat_tests}
use Rattle.std.proofs.lemmas.Option.{none-some, same_Some}
use Rattle.std.proofs.lemmas.List.Elements.{All-nil, All-cons, All-head, All-tail, All-append}
use Rattle.std.proofs.lemmas.Slice.Eq.{bytes_eq-Decides}
use Rattle.mesh_text.specs.Escapes.{escaped, escaped_byte, unescaped, unescaped_bytes, after}

-- bytes with more of them in front
abbrev pub behind : List ℕ → Option (List ℕ) → Option (List ℕ)
behind front bytes = option_map (λ bs. front ++ bs) bytes

pub behind_more : (front : List ℕ) (b : ℕ) (bytes : Option (List ℕ)) → behind (front ++ b ∷ []) bytes ≡ behind front (after b bytes)
behind_more front b None = refl
behind_more front b (Some bs) = ap Some (append_assoc front (b ∷ []) bs)

-- a byte that is no `%` stands for itself
plain_byte : (b : ℕ) (rest : List ℕ) → b ≢ 37 → unescaped_bytes (b ∷ rest) ≡ after b (unescaped_bytes rest)
plain_byte b [] other = rw (ne_eqb b 37 other) refl
plain_byte b (c ∷ []) other = rw (ne_eqb b 37 other) refl
plain_byte b (c ∷ d ∷ rest) other = rw (ne_eqb b 37 other) refl

glyph_value : (d : ℕ) → d < 16 → digit_value (digit_glyph true d) ≡ d
glyph_value d h = grind (arith, nat_tests)

glyph_digit : (d : ℕ) → d < 16 → is_digit (digit_glyph true d) 16 ≡ true
glyph_digit d h = rw (glyph_value d h) (lt-ltb d 16 h)

-- a `%` and the two digits of a byte stand for the byte
hex_escape : (b : ℕ) (rest : List ℕ) → b < 256 → unescaped_bytes (37 ∷ digit_glyph true (b / 16) ∷ digit_glyph true (b % 16) ∷ rest) ≡ after b (unescaped_bytes rest)
hex_escape b rest small =
    let high : b / 16 < 16 = omega arith in
    let low : b % 16 < 16 = omega arith in
    let whole : 16 * (b / 16) + b % 16 ≡ b = omega arith in
    rw (glyph_digit (b / 16) high, glyph_digit (b % 16) low, glyph_value (b / 16) high, glyph_value (b % 16) low, whole) refl

-- the test of a byte that is written as itself
abbrev is_plain : ℕ → Bool
is_plain b = nat_le 0x21 b && nat_le b 0x7E && not (b == 37)

plain-other : (b : ℕ) → is_plain b ≡ true → b ≢ 37
plain-other b h same =
    let wrong : (b == 37) ≡ false = not-true _ (and_parts _ _ h).1 in
    true≢false (sym (eq-eqb b 37 same) ∙ wrong)

unescaped-byte : (b : ℕ) (rest : List ℕ) → b < 256 → unescaped_bytes (escaped_byte b ++ rest) ≡ after b (unescaped_bytes rest)
unescaped-byte b rest small =
    elim (cases_Bool (is_plain b)) [
      | inl plain ↦ rw plain (plain_byte b rest (plain-other b plain))
      | inr other ↦ rw other (hex_escape b rest small)
    ]

unescaped-bytes : (bytes : List ℕ) → All (λ b. b < 256) bytes → unescaped_bytes (flat_map escaped_byte bytes) ≡ Some bytes
unescaped-bytes [] small = refl
unescaped-bytes (b ∷ bs) small =
    unescaped-byte b (flat_map escaped_byte bs) (All-head (λ b. b < 256) b bs small) ∙ ap (after b) (unescaped-bytes bs (All-tail (λ b. b < 256) b bs small))

dash_is : (word : List ℕ) → bytes_eq word (45 ∷ []) ≡ true → word ≡ 45 ∷ []
dash_is word h = (bytes_eq-Decides word (45 ∷ [])).0 h

-- what stands for bytes other than `-` is not `-`
other_word : (word bytes : List ℕ) → unescaped_bytes word ≡ Some bytes → 0 < length bytes → bytes_eq bytes (45 ∷ []) ≡ false → unescaped word ≡ Some bytes
unfolding unescaped
other_word [] bytes e some other = let none : [] ≡ bytes = same_Some _ _ e in absurd (omega (arith, ap length none))
other_word (c ∷ cs) bytes e some other =
    let no_dash : bytes_eq (c ∷ cs) (45 ∷ []) ≡ false = false_from_ne_true _ λ dash.
    let is : c ∷ cs ≡ 45 ∷ [] = dash_is (c ∷ cs) dash in
    let same : 45 ∷ [] ≡ bytes = same_Some (45 ∷ []) bytes (sym (ap unescaped_bytes is) ∙ e) in
    let yes : bytes_eq bytes (45 ∷ []) ≡ true = ap (λ t. bytes_eq t (45 ∷ [])) (sym same) in
    true≢false (sym yes ∙ other) in
    rw no_dash e

pub unescaped-escaped : (bytes : List ℕ) → All (λ b. b < 256) bytes → unescaped (escaped bytes) ≡ Some bytes
unfolding escaped
unescaped-escaped [] small = unfold unescaped in refl
unescaped-escaped (b ∷ bs) small =
    elim (cases_Bool (bytes_eq (b ∷ bs) (45 ∷ []))) [
      | inl dash ↦ rw dash (unfold unescaped in ap Some (sym (dash_is (b ∷ bs) dash)))
      | inr other ↦ rw other (other_word _ (b ∷ bs) (unescaped-bytes (b ∷ bs) small) (omega arith) other)
    ]

-- an escaped byte is visible
abbrev pub IsVisible : ℕ → Type 0
IsVisible c = (0x21 ≤ c) × (c ≤ 0x7E)

glyph_visible : (d : ℕ) → d < 16 → IsVisible (digit_glyph true d)
glyph_visible d h = grind (arith, nat_tests)

visible-byte : (b : ℕ) → b < 256 → All IsVisible (escaped_byte b)
visible-byte b small =
    elim (cases_Bool (is_plain b)) [
      | inl plain ↦
          let bounds = and_parts _ _ (and_parts _ _ plain).0 in
          rw plain (All-cons IsVisible b [] (leb-true 0x21 b bounds.0, leb-true b 0x7E bounds.1) (All-nil IsVisible))
      | inr other ↦
          let high = digit_glyph true (b / 16) in
          let low = digit_glyph true (b % 16) in
          let digits = All-cons IsVisible high (low ∷ []) (glyph_visible (b / 16) (omega arith)) (All-cons IsVisible low [] (glyph_visible (b % 16) (omega arith)) (All-nil IsVisible)) in
          rw other (All-cons IsVisible 37 (high ∷ low ∷ []) (omega arith) digits)
    ]

visible-bytes : (bytes : List ℕ) → All (λ b. b < 256) bytes → All IsVisible (flat_map escaped_byte bytes)
visible-bytes [] small = All-nil IsVisible
visible-bytes (b ∷ bs) small =
    All-append IsVisible (escaped_byte b) (flat_map escaped_byte bs) (visible-byte b (All-head (λ b. b < 256) b bs small)) (visible-bytes bs (All-tail (λ b. b < 256) b bs small))

pub escaped-visible : (bytes : List ℕ) → All (λ b. b < 256) bytes → All IsVisible (escaped bytes)
unfolding escaped
escaped-visible [] small = All-cons IsVisible 45 [] (omega arith) (All-nil IsVisible)
escaped-visible (b ∷ bs) small =
    elim (cases_Bool (bytes_eq (b ∷ bs) (45 ∷ []))) [
      | inl dash ↦ rw dash (All-cons IsVisible 37 (50 ∷ 68 ∷ []) (omega arith) (All-cons IsVisible 50 (68 ∷ []) (omega arith) (All-cons IsVisible 68 [] (omega arith) (All-nil IsVisible))))
      | inr other ↦ rw other (visible-bytes (b ∷ bs) small)
    ]

-- a word is never empty: the empty word stands for nothing
pub escaped-some : (bytes : List ℕ) → All (λ b. b < 256) bytes → 0 < length (escaped bytes)
escaped-some bytes small = go (escaped bytes) (unescaped-escaped bytes small)
  where
    go : (word : List ℕ) → unescaped word ≡ Some bytes → 0 < length word
    go [] e = unfold unescaped in absurd (none-some bytes e)
    go (c ∷ cs) e = omega arith
