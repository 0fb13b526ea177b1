-- The first `::` of a text, and what stands around it.
use Rattle.std.proofs.Common.{◌≡◌, ℕ, ◌<◌, ◌==◌, false, ◌&&◌, List, [], ◌∷◌, ◌++◌, length, Option, Some, None, option_map, refl, sym, ap, ◌∙◌, arith, inl, inr, append_assoc}
use Rattle.std.proofs.lemmas.List.{append-nil}
use Rattle.std.proofs.lemmas.Bool.{and_parts, and_left, and_right, false≢true, cases_Bool, eqb-true}
use Rattle.std.proofs.lemmas.Option.{none-some, same_Some}
use Rattle.std.proofs.NetLemmas.Options.{map_some}
use Rattle.std.specs.Str.Parse.{AllDigits}
use Rattle.std.specs.Net.Grammar.{IsGroups, IsGroupsAfter}
use Rattle.mesh_text.specs.Addresses.{before, around_gap}
use Rattle.mesh_text.proofs.Ipv6Fields.{no_colon}

-- the two sides with these bytes in front of the first
abbrev pub behind : List ℕ → Option (List ℕ × List ℕ) → Option (List ℕ × List ℕ)
behind front sides = option_map (λ p. (front ++ p.0, p.1)) sides

behind-nil : (sides : Option (List ℕ × List ℕ)) → sides ≡ behind [] sides
behind-nil None = refl
behind-nil (Some p) = refl

behind-cons : (c : ℕ) (front : List ℕ) (sides : Option (List ℕ × List ℕ)) → before c (behind front sides) ≡ behind (c ∷ front) sides
behind-cons c front None = refl
behind-cons c front (Some p) = refl

behind-append : (front more : List ℕ) (sides : Option (List ℕ × List ℕ)) → behind front (behind more sides) ≡ behind (front ++ more) sides
behind-append front more None = refl
behind-append front more (Some p) = ap (λ t. Some (t, p.1)) (sym (append_assoc front more p.0))

past_other : (c : ℕ) (text : List ℕ) → (c == 58) ≡ false → around_gap (c ∷ text) ≡ before c (around_gap text)
past_other c [] h = refl
past_other c (d ∷ rest) h = rw (and_left _ (d == 58) h) refl

past_colon : (c d : ℕ) (text : List ℕ) → (d == 58) ≡ false → around_gap (c ∷ d ∷ text) ≡ before c (around_gap (d ∷ text))
past_colon c d text h = rw (and_right (c == 58) _ h) refl

past_digits : (digits text : List ℕ) → AllDigits 16 digits → around_gap (digits ++ text) ≡ behind digits (around_gap text)
past_digits [] text h = behind-nil (around_gap text)
past_digits (c ∷ digits) text h =
    past_other c (digits ++ text) (no_colon c h.0) ∙ ap (before c) (past_digits digits text h.1) ∙ behind-cons c digits (around_gap text)

past_field : (digits text : List ℕ) → 0 < length digits → AllDigits 16 digits → around_gap (58 ∷ (digits ++ text)) ≡ behind (58 ∷ digits) (around_gap text)
past_field [] text some h = absurd (omega arith)
past_field (c ∷ digits) text some h =
    past_colon 58 c (digits ++ text) (no_colon c h.0) ∙ ap (before 58) (past_digits (c ∷ digits) text h) ∙ behind-cons 58 (c ∷ digits) (around_gap text)

past_fields : (fields more text : List ℕ) → IsGroupsAfter false (58 ∷ []) more fields → around_gap (more ++ text) ≡ behind more (around_gap text)
past_fields [] more text h = rw h (behind-nil (around_gap text))
past_fields (field ∷ fields) more text (inl h) =
    let (group, rest, split, is_group, is_rest) = h in
    let shown : more ++ text ≡ 58 ∷ (group ++ (rest ++ text)) = ap (λ t. t ++ text) split ∙ ap (λ t. 58 ∷ t) (append_assoc group rest text) in
    let first = past_field group (rest ++ text) is_group.0.0.0 is_group.0.0.1 in
    let later = past_fields fields rest text is_rest in
    ap around_gap shown ∙ first ∙ ap (behind (58 ∷ group)) later ∙ behind-append (58 ∷ group) rest (around_gap text) ∙ ap (λ t. behind t (around_gap text)) (sym split)
past_fields (field ∷ fields) more text (inr h) = absurd (false≢true h.2)

-- fields hold no `::` and end in a digit
pub past_side : (fields side text : List ℕ) → IsGroups false side fields → around_gap (side ++ text) ≡ behind side (around_gap text)
past_side [] side text h = rw h (behind-nil (around_gap text))
past_side (field ∷ fields) side text (inl h) =
    let (group, rest, split, is_group, is_rest) = h in
    let shown : side ++ text ≡ group ++ (rest ++ text) = ap (λ t. t ++ text) split ∙ append_assoc group rest text in
    let first = past_digits group (rest ++ text) is_group.0.0.1 in
    let later = past_fields fields rest text is_rest in
    ap around_gap shown ∙ first ∙ ap (behind group) later ∙ behind-append group rest (around_gap text) ∙ ap (λ t. behind t (around_gap text)) (sym split)
past_side (field ∷ fields) side text (inr h) = absurd (false≢true h.2)

pub no_gap : (fields text : List ℕ) → IsGroups false text fields → around_gap text ≡ None
no_gap fields text h = rw (append-nil text) at (past_side fields text [] h)

pub gap_after_side : (fields side tail : List ℕ) → IsGroups false side fields → around_gap (side ++ 58 ∷ 58 ∷ tail) ≡ Some (side, tail)
gap_after_side fields side tail h = past_side fields side (58 ∷ 58 ∷ tail) h ∙ ap (λ t. Some (t, tail)) (append-nil side)

-- what is found stands there
pub around_gap-sound : (text : List ℕ) (p : List ℕ × List ℕ) → around_gap text ≡ Some p → text ≡ p.0 ++ 58 ∷ 58 ∷ p.1
around_gap-sound [] p e = absurd (none-some p e)
around_gap-sound (c ∷ []) p e = absurd (none-some p e)
around_gap-sound (c ∷ d ∷ rest) p e =
    elim (cases_Bool (c == 58 && d == 58)) [
      | inl both ↦
          let (first, second) = and_parts _ _ both in
          let same : ([], rest) ≡ p = same_Some _ _ (rw both at e) in
          rw (← same, eqb-true c 58 first, eqb-true d 58 second) refl
      | inr other ↦
          map_some _ (around_gap (d ∷ rest)) p (rw other at e) λ q found same.
          rw (← same) (ap (λ t. c ∷ t) (around_gap-sound (d ∷ rest) q found))
    ]
