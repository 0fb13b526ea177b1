-- Four decimal bytes joined by dots: the pieces at the dots are read as what was written.
use Rattle.std.proofs.Common.{◌≡◌, ℕ, ◌<◌, ◌==◌, false, List, [], ◌∷◌, ◌++◌, get_or, decimal, Some, All, refl, sym, arith, lt-ltb, ne_eqb, append_assoc}
use Rattle.std.proofs.lemmas.Bool.{ltb-true}
use Rattle.std.proofs.lemmas.Option.{none-some, same_Some}
use Rattle.std.proofs.lemmas.List.Elements.{All-from_get_or}
use Rattle.std.proofs.lemmas.List.Splits.{slice_split_none, slice_split_at, join_with_byte-slice_split}
use Rattle.std.proofs.lemmas.Fmt.{decimal_is_IsNumeral}
use Rattle.std.proofs.lemmas.Str.Parse.{digit_at}
use Rattle.std.proofs.NetLemmas.Options.{cond_some, and_then_some}
use Rattle.std.specs.List.{join_with_byte}
use Rattle.std.specs.Net.Text.{dotted_text}
use Rattle.std.specs.Net.Grammar.{IsDotted}
use Rattle.mesh_text.specs.Numbers.{number_of}
use Rattle.mesh_text.specs.Addresses.{split_at, octet_of, four_bytes_of}
use Rattle.mesh_text.proofs.Decimals.{number_of-decimal, number_of-sound}

-- no byte of the text is the separator
abbrev pub Lacks : ℕ → List ℕ → Type 0
Lacks separator text = All (λ c. (c == separator) ≡ false) text

decimal-lacks_dot : (n : ℕ) → n < 256 → Lacks 46 (decimal n)
decimal-lacks_dot n fits =
    All-from_get_or (λ c. (c == 46) ≡ false) (decimal n) 0 λ i h.
    let digit = digit_at (decimal n) i (decimal_is_IsNumeral n (omega arith)).0.1 h in
    ne_eqb (get_or (decimal n) i 0) 46 (λ same. omega arith)

octet_of-decimal : (n : ℕ) → n < 256 → octet_of (decimal n) ≡ Some n
octet_of-decimal n fits = rw (number_of-decimal n (omega arith), lt-ltb n 256 fits) refl

pub octet_of-sound : (piece : List ℕ) (n : ℕ) → octet_of piece ≡ Some n → (n < 256) × (piece ≡ decimal n)
octet_of-sound piece n e =
    and_then_some _ (number_of piece) _ e λ m read kept.
    let (below, same) = cond_some _ _ _ kept in
    rw (← same) (ltb-true m 256 below, (number_of-sound piece m read).1)

pub dotted_parts : (a b c d : ℕ) → dotted_text a b c d ≡ decimal a ++ 46 ∷ (decimal b ++ 46 ∷ (decimal c ++ 46 ∷ decimal d))
dotted_parts a b c d = simp append_assoc

pub four_bytes_of-complete : (text bytes : List ℕ) → IsDotted text bytes → four_bytes_of (split_at 46 text) ≡ Some bytes
four_bytes_of-complete text bytes h =
    let p = λ (c : ℕ). c == 46 in
    let first = slice_split_at p (decimal h.a) 46 (decimal h.b ++ 46 ∷ (decimal h.c ++ 46 ∷ decimal h.d)) (decimal-lacks_dot h.a h.fit.0) refl in
    let second = slice_split_at p (decimal h.b) 46 (decimal h.c ++ 46 ∷ decimal h.d) (decimal-lacks_dot h.b h.fit.1) refl in
    let third = slice_split_at p (decimal h.c) 46 (decimal h.d) (decimal-lacks_dot h.c h.fit.2) refl in
    let last = slice_split_none p (decimal h.d) (decimal-lacks_dot h.d h.fit.3) in
    rw (
      h.spelled,
      dotted_parts h.a h.b h.c h.d,
      first,
      second,
      third,
      last,
      octet_of-decimal h.a h.fit.0,
      octet_of-decimal h.b h.fit.1,
      octet_of-decimal h.c h.fit.2,
      octet_of-decimal h.d h.fit.3,
      h.value,
    ) refl

four_pieces-sound : (pieces : List (List ℕ)) (bytes : List ℕ) → four_bytes_of pieces ≡ Some bytes → IsDotted (join_with_byte 46 pieces) bytes
four_pieces-sound [] bytes e = absurd (none-some bytes e)
four_pieces-sound (a ∷ []) bytes e = absurd (none-some bytes e)
four_pieces-sound (a ∷ b ∷ []) bytes e = absurd (none-some bytes e)
four_pieces-sound (a ∷ b ∷ c ∷ []) bytes e = absurd (none-some bytes e)
four_pieces-sound (a ∷ b ∷ c ∷ d ∷ []) bytes e =
    and_then_some _ (octet_of a) _ e λ w is_w e₁.
    and_then_some _ (octet_of b) _ e₁ λ x is_x e₂.
    and_then_some _ (octet_of c) _ e₂ λ y is_y e₃.
    and_then_some _ (octet_of d) _ e₃ λ z is_z e₄.
    let of_w = octet_of-sound a w is_w in
    let of_x = octet_of-sound b x is_x in
    let of_y = octet_of-sound c y is_y in
    let of_z = octet_of-sound d z is_z in
    record {
      a = w;
      b = x;
      c = y;
      d = z;
      fit = (of_w.0, of_x.0, of_y.0, of_z.0);
      value = sym (same_Some _ _ e₄);
      spelled = rw (of_w.1, of_x.1, of_y.1, of_z.1) (sym (dotted_parts w x y z));
    }
four_pieces-sound (a ∷ b ∷ c ∷ d ∷ f ∷ pieces) bytes e = absurd (none-some bytes e)

pub four_bytes_of-sound : (text bytes : List ℕ) → four_bytes_of (split_at 46 text) ≡ Some bytes → IsDotted text bytes
four_bytes_of-sound text bytes e =
    rw (join_with_byte-slice_split 46 text) at (four_pieces-sound (split_at 46 text) bytes e)
