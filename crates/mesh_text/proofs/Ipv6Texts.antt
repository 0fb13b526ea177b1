-- Eight fields of a text are those of RFC 4291's forms 1 and 2 without a dotted tail.
use Rattle.std.proofs.Common.{◌≡◌, ℕ, ◌+◌, ◌-◌, ◌<◌, ◌≤◌, true, false, List, [], ◌∷◌, ◌++◌, length, replicate, Option, Some, None, All, ◌^◌, lit<, lit≤, refl, sym, ◌∙◌, arith, inl, inr, append_assoc, length-append, lt-ltb, eq-eqb}
use Rattle.std.proofs.lemmas.List.{length-replicate}
use Rattle.std.proofs.lemmas.Bool.{ltb-true, eqb-true, or_parts, false≢true}
use Rattle.std.proofs.NetLemmas.Options.{cond_some, and_then_some}
use Rattle.std.proofs.lemmas.List.Elements.{All-nil, All-cons, All-head, All-tail, All-append, All-replicate}
use Rattle.std.proofs.lemmas.Int.Digits.{digits_value-lt}
use Rattle.std.proofs.Math.Nat.{pow-le-pow_right}
use Rattle.std.specs.Int.Digits.{AllBelowBase}
use Rattle.std.specs.Net.Grammar.{IsGroup, IsGroups, IsGroupsAfter, IsElided, IsColonHex}
use Rattle.mesh_text.specs.Addresses.{split_at, fields_of, side_of, around_gap, fields_around, eight_fields_of}
use Rattle.mesh_text.proofs.Ipv6Fields.{has_dot, has_dot-append, whole_side, side_of-complete, side_of-sound, pieces-sound, groups-no_dot, undotted}
use Rattle.mesh_text.proofs.Ipv6Gaps.{no_gap, gap_after_side, around_gap-sound}

plain-complete : (text fields : List ℕ) → IsGroups false text fields → length fields ≡ 8 → eight_fields_of text ≡ Some fields
plain-complete text [] groups eight_long = absurd (omega arith)
plain-complete text (field ∷ fields) groups eight_long =
    rw (no_gap (field ∷ fields) text groups, whole_side text field fields groups, eq-eqb _ _ eight_long) refl

pub eight_fields_of-complete : (text fields : List ℕ) → has_dot text ≡ false → IsColonHex text fields → eight_fields_of text ≡ Some fields
eight_fields_of-complete text fields h (inl plain) = plain-complete text fields (undotted fields [] text h plain.0) plain.1
eight_fields_of-complete text fields h (inr elided) =
    let shown : text ≡ elided.head_text ++ 58 ∷ 58 ∷ elided.tail_text = elided.spelled ∙ append_assoc elided.head_text (58 ∷ 58 ∷ []) elided.tail_text in
    let apart = or_parts _ _ (rw (shown, has_dot-append elided.head_text (58 ∷ 58 ∷ elided.tail_text)) at h) in
    let tail_groups = undotted elided.tail [] elided.tail_text apart.1 elided.tail_groups in
    let gap = gap_after_side elided.head elided.head_text elided.tail_text elided.head_groups in
    let head = side_of-complete elided.head_text elided.head elided.head_groups in
    let tail = side_of-complete elided.tail_text elided.tail tail_groups in
    rw (shown, gap, head, tail, lt-ltb _ _ elided.room, ← elided.value) refl

-- form 2
elided-sound : (text fields : List ℕ) (sides : List ℕ × List ℕ) → around_gap text ≡ Some sides → fields_around text (Some sides) ≡ Some fields → IsElided text fields × (has_dot text ≡ false)
elided-sound text fields sides gap e =
    and_then_some _ (side_of sides.0) _ e λ head is_head e₁.
    and_then_some _ (side_of sides.1) _ e₁ λ tail is_tail e₂.
    let (room, same) = cond_some _ _ _ e₂ in
    let shown = around_gap-sound text sides gap in
    let head_groups = side_of-sound false sides.0 head is_head in
    let left = groups-no_dot head [] sides.0 refl head_groups in
    let right = groups-no_dot tail [] sides.1 refl (side_of-sound false sides.1 tail is_tail) in
    let elided : IsElided text fields = record {
      head_text = sides.0;
      tail_text = sides.1;
      head = head;
      tail = tail;
      spelled = shown ∙ sym (append_assoc sides.0 (58 ∷ 58 ∷ []) sides.1);
      head_groups = head_groups;
      tail_groups = side_of-sound true sides.1 tail is_tail;
      room = ltb-true (length head + length tail) 8 room;
      value = sym same;
    } in
    (elided, rw (shown, has_dot-append sides.0 (58 ∷ 58 ∷ sides.1), left, right) refl)

around-sound : (text fields : List ℕ) (sides : Option (List ℕ × List ℕ)) → around_gap text ≡ sides → fields_around text sides ≡ Some fields → IsColonHex text fields × (has_dot text ≡ false)
around-sound text fields None gap e =
    and_then_some _ (fields_of (split_at 58 text)) _ e λ found are_fields kept.
    let (long, same) = cond_some _ _ _ kept in
    let eight_long : length found ≡ 8 = eqb-true (length found) 8 long in
    let dots = groups-no_dot found [] text refl (pieces-sound false text found are_fields (omega arith)) in
    rw (← same) (inl (pieces-sound true text found are_fields (omega arith), eight_long), dots)
around-sound text fields (Some sides) gap e =
    let (elided, dots) = elided-sound text fields sides gap e in (inr elided, dots)

pub eight_fields_of-sound : (text fields : List ℕ) → eight_fields_of text ≡ Some fields → IsColonHex text fields × (has_dot text ≡ false)
eight_fields_of-sound text fields e = around-sound text fields (around_gap text) refl e

length-elided : (head tail : List ℕ) → length head + length tail < 8 → length (head ++ replicate (8 - length head - length tail) 0 ++ tail) ≡ 8
length-elided head tail room = simp (length-append, length-replicate) (omega arith)

pub length-colon_hex : (text fields : List ℕ) → IsColonHex text fields → length fields ≡ 8
length-colon_hex text fields (inl plain) = plain.1
length-colon_hex text fields (inr elided) = rw elided.value (length-elided elided.head elided.tail elided.room)

-- a field has 16 bits

group-small : (group : List ℕ) (field : ℕ) → IsGroup group field → field < 65536
group-small group field h =
    let below = digits_value-lt 16 group h.0.0.1 in
    let most : 16 ^ length group ≤ 16 ^ 4 = pow-le-pow_right (lit≤ tt) h.1 in
    omega (arith, h.0.1)

groups-small : (fields before text : List ℕ) → IsGroupsAfter false before text fields → All (λ d. d < 65536) fields
groups-small [] before text h = All-nil (λ d. d < 65536)
groups-small (field ∷ fields) before text (inl h) =
    All-cons (λ d. d < 65536) field fields (group-small h.0 field h.3) (groups-small fields (58 ∷ []) h.1 h.4)
groups-small (field ∷ fields) before text (inr h) = absurd (false≢true h.2)

all_below_base : (fields : List ℕ) → All (λ d. d < 65536) fields → AllBelowBase 65536 fields
all_below_base [] h = tt
all_below_base (d ∷ ds) h = (All-head (λ d. d < 65536) d ds h, all_below_base ds (All-tail (λ d. d < 65536) d ds h))

colon_hex-small : (text fields : List ℕ) → has_dot text ≡ false → IsColonHex text fields → All (λ d. d < 65536) fields
colon_hex-small text fields h (inl plain) = groups-small fields [] text (undotted fields [] text h plain.0)
colon_hex-small text fields h (inr elided) =
    let shown : text ≡ elided.head_text ++ 58 ∷ 58 ∷ elided.tail_text = elided.spelled ∙ append_assoc elided.head_text (58 ∷ 58 ∷ []) elided.tail_text in
    let apart = or_parts _ _ (rw (shown, has_dot-append elided.head_text (58 ∷ 58 ∷ elided.tail_text)) at h) in
    let P : ℕ → Type 0 = λ d. d < 65536 in
    let zeros = replicate (8 - length elided.head - length elided.tail) 0 in
    let head = groups-small elided.head [] elided.head_text elided.head_groups in
    let tail = groups-small elided.tail [] elided.tail_text (undotted elided.tail [] elided.tail_text apart.1 elided.tail_groups) in
    let middle = All-replicate P (8 - length elided.head - length elided.tail) 0 (lit< tt) in
    rw elided.value (All-append P (elided.head ++ zeros) elided.tail (All-append P elided.head zeros head middle) tail)

pub eight_fields_of-small : (text fields : List ℕ) → eight_fields_of text ≡ Some fields → AllBelowBase 65536 fields × (length fields ≡ 8)
eight_fields_of-small text fields e =
    let (colon_hex, dots) = eight_fields_of-sound text fields e in
    (all_below_base fields (colon_hex-small text fields dots colon_hex), length-colon_hex text fields colon_hex)
