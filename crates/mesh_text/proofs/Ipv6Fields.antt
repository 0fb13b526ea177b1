-- Fields joined by colons: the pieces at the colons are read as what was written.
use Rattle.std.proofs.Common.{◌≡◌, ℕ, ◌<◌, ◌==◌, Bool, true, false, ◌||◌, List, [], ◌∷◌, ◌++◌, length, Some, decimal, refl, sym, ap, ◌∙◌, arith, inl, inr, subst, append_assoc, length-append, le-leb, lt-ltb}
use Rattle.std.proofs.lemmas.List.{append-nil}
use Rattle.std.proofs.lemmas.Bool.{and_parts, and_from, false≢true, leb-true, ltb-true, or_right, or_parts, or_from}
use Rattle.std.proofs.lemmas.Bool.Decides.{nat_tests}
use Rattle.std.proofs.lemmas.Option.{same_Some}
use Rattle.std.proofs.lemmas.List.Elements.{All-nil, All-cons}
use Rattle.std.proofs.lemmas.List.Folds.{list_any-append}
use Rattle.std.proofs.lemmas.List.Splits.{slice_split_none, slice_split_at, join_with_byte-slice_split}
use Rattle.std.proofs.NetLemmas.Options.{cond_some, and_then_some}
use Rattle.std.specs.List.{join_with_byte, list_all, list_any}
use Rattle.std.specs.Char.{is_digit, digit_value}
use Rattle.std.specs.Str.Parse.{AllDigits}
use Rattle.std.specs.Net.Grammar.{IsGroup, IsGroups, IsGroupsAfter, IsDotted}
use Rattle.mesh_text.specs.Addresses.{split_at, field_of, fields_of, side_of}
use Rattle.mesh_text.proofs.Ipv4Texts.{Lacks, dotted_parts}

-- one field

all_hex : (text : List ℕ) → AllDigits 16 text → list_all (λ c. is_digit c 16) text ≡ true
all_hex [] h = refl
all_hex (c ∷ cs) h = and_from _ _ (lt-ltb _ _ h.0) (all_hex cs h.1)

all_hex-sound : (text : List ℕ) → list_all (λ c. is_digit c 16) text ≡ true → AllDigits 16 text
all_hex-sound [] h = tt
all_hex-sound (c ∷ cs) h = let (first, more) = and_parts _ _ h in (ltb-true (digit_value c) 16 first, all_hex-sound cs more)

field_of-complete : (piece : List ℕ) (field : ℕ) → IsGroup piece field → field_of piece ≡ Some field
field_of-complete piece field h =
    rw (le-leb 1 (length piece) (omega (arith, h.0.0.0)), le-leb (length piece) 4 h.1, all_hex piece h.0.0.1, h.0.1) refl

field_of-sound : (piece : List ℕ) (field : ℕ) → field_of piece ≡ Some field → IsGroup piece field
field_of-sound piece field e =
    let (test, value) = cond_some _ _ _ e in
    let (bounds, hex) = and_parts _ _ test in
    let (low, high) = and_parts _ _ bounds in
    let some = leb-true 1 (length piece) low in
    ((((omega arith), all_hex-sound piece hex), value), leb-true (length piece) 4 high)

-- a hexadecimal digit is neither a colon nor a dot
pub no_colon : (c : ℕ) → digit_value c < 16 → (c == 58) ≡ false
no_colon c h = grind (arith, nat_tests)

no_dot : (c : ℕ) → digit_value c < 16 → (c == 46) ≡ false
no_dot c h = grind (arith, nat_tests)

pub digits-lack_colon : (text : List ℕ) → AllDigits 16 text → Lacks 58 text
digits-lack_colon [] h = All-nil (λ c. (c == 58) ≡ false)
digits-lack_colon (c ∷ cs) h = All-cons (λ c. (c == 58) ≡ false) c cs (no_colon c h.0) (digits-lack_colon cs h.1)

-- whether a dot is among the bytes
abbrev pub has_dot : List ℕ → Bool
has_dot text = list_any (λ c. c == 46) text

digits-no_dot : (text : List ℕ) → AllDigits 16 text → has_dot text ≡ false
digits-no_dot [] h = refl
digits-no_dot (c ∷ cs) h = or_from _ _ (no_dot c h.0) (digits-no_dot cs h.1)

pub has_dot-append : (xs ys : List ℕ) → has_dot (xs ++ ys) ≡ (has_dot xs || has_dot ys)
has_dot-append xs ys = list_any-append (λ c. c == 46) xs ys

-- fields after colons

fields_of-complete : (fields : List ℕ) (field : ℕ) (group more : List ℕ) → IsGroup group field → IsGroupsAfter false (58 ∷ []) more fields → fields_of (split_at 58 (group ++ more)) ≡ Some (field ∷ fields)
fields_of-complete [] field group more is_group is_more =
    let alone : group ++ more ≡ group = ap (λ t. group ++ t) is_more ∙ append-nil group in
    let pieces = slice_split_none (λ c. c == 58) group (digits-lack_colon group is_group.0.0.1) in
    rw (alone, pieces, field_of-complete group field is_group) refl
fields_of-complete (next ∷ fields) field group more is_group (inl h) =
    let (second, rest, split, is_second, is_rest) = h in
    let later = fields_of-complete fields next second rest is_second is_rest in
    let shown : group ++ more ≡ group ++ 58 ∷ (second ++ rest) = ap (λ t. group ++ t) split in
    let pieces = slice_split_at (λ c. c == 58) group 58 (second ++ rest) (digits-lack_colon group is_group.0.0.1) refl in
    rw (shown, pieces, field_of-complete group field is_group, later) refl
fields_of-complete (next ∷ fields) field group more is_group (inr h) = absurd (false≢true h.2)

pub whole_side : (text : List ℕ) (field : ℕ) (fields : List ℕ) → IsGroups false text (field ∷ fields) → fields_of (split_at 58 text) ≡ Some (field ∷ fields)
whole_side text field fields (inl h) =
    let (group, more, split, is_group, is_more) = h in
    rw split (fields_of-complete fields field group more is_group is_more)
whole_side text field fields (inr h) = absurd (false≢true h.2)

side_of-some : (text : List ℕ) → 0 < length text → side_of text ≡ fields_of (split_at 58 text)
side_of-some [] h = absurd (omega arith)
side_of-some (c ∷ cs) h = refl

pub side_of-complete : (text fields : List ℕ) → IsGroups false text fields → side_of text ≡ Some fields
side_of-complete text [] h = ap side_of h
side_of-complete text (field ∷ fields) (inl h) =
    let (group, more, split, is_group, is_more) = h in
    let some : 0 < length text = rw (split, length-append group more) (omega (arith, is_group.0.0.0)) in
    side_of-some text some ∙ whole_side text field fields (inl h)
side_of-complete text (field ∷ fields) (inr h) = absurd (false≢true h.2)

-- what is read are groups

fields_of-sound : (ipv4 : Bool) (before piece : List ℕ) (pieces : List (List ℕ)) (fields : List ℕ) → fields_of (piece ∷ pieces) ≡ Some fields → IsGroupsAfter ipv4 before (before ++ join_with_byte 58 (piece ∷ pieces)) fields
fields_of-sound ipv4 before piece [] fields e =
    and_then_some _ (field_of piece) _ e λ field is_field e₁.
    let same : field ∷ [] ≡ fields = same_Some _ _ e₁ in
    let shown : before ++ piece ≡ before ++ piece ++ [] = sym (append-nil (before ++ piece)) in
    rw (← same) (inl (piece, [], shown, field_of-sound piece field is_field, refl))
fields_of-sound ipv4 before piece (next ∷ pieces) fields e =
    and_then_some _ (field_of piece) _ e λ field is_field e₁.
    and_then_some _ (fields_of (next ∷ pieces)) _ e₁ λ others are_others e₂.
    let same : field ∷ others ≡ fields = same_Some _ _ e₂ in
    let later = fields_of-sound ipv4 (58 ∷ []) next pieces others are_others in
    let rest = 58 ∷ join_with_byte 58 (next ∷ pieces) in
    let shown : before ++ (piece ++ rest) ≡ before ++ piece ++ rest = sym (append_assoc before piece rest) in
    rw (← same) (inl (piece, rest, shown, field_of-sound piece field is_field, later))

pub pieces-sound : (ipv4 : Bool) (text fields : List ℕ) → fields_of (split_at 58 text) ≡ Some fields → 0 < length fields → IsGroups ipv4 text fields
pieces-sound ipv4 text fields e some = go (split_at 58 text) refl
  where
    go : (pieces : List (List ℕ)) → split_at 58 text ≡ pieces → IsGroups ipv4 text fields
    go [] is = let none : [] ≡ fields = same_Some _ _ (rw is at e) in absurd (omega (arith, ap length none))
    go (piece ∷ pieces) is =
        let groups = fields_of-sound ipv4 [] piece pieces fields (rw is at e) in
        let shown : join_with_byte 58 (piece ∷ pieces) ≡ text = ap (join_with_byte 58) (sym is) ∙ join_with_byte-slice_split 58 text in
        subst (λ t. IsGroups ipv4 t fields) shown groups

pub side_of-sound : (ipv4 : Bool) (text fields : List ℕ) → side_of text ≡ Some fields → IsGroups ipv4 text fields
side_of-sound ipv4 [] fields e = rw (← same_Some _ _ e) refl
side_of-sound ipv4 (c ∷ cs) fields e = whole (split_at 58 (c ∷ cs)) refl
  where
    whole : (pieces : List (List ℕ)) → split_at 58 (c ∷ cs) ≡ pieces → IsGroups ipv4 (c ∷ cs) fields
    whole [] is =
        let back : [] ≡ c ∷ cs = ap (join_with_byte 58) (sym is) ∙ join_with_byte-slice_split 58 (c ∷ cs) in
        absurd (omega (arith, ap length back))
    whole (piece ∷ pieces) is =
        let groups = fields_of-sound ipv4 [] piece pieces fields (rw is at e) in
        let shown : join_with_byte 58 (piece ∷ pieces) ≡ c ∷ cs = ap (join_with_byte 58) (sym is) ∙ join_with_byte-slice_split 58 (c ∷ cs) in
        subst (λ t. IsGroups ipv4 t fields) shown groups

-- groups without a dotted tail have no dot
pub groups-no_dot : (fields before text : List ℕ) → has_dot before ≡ false → IsGroupsAfter false before text fields → has_dot text ≡ false
groups-no_dot [] before text h groups = ap has_dot groups
groups-no_dot (field ∷ fields) before text h (inl groups) =
    let (group, rest, split, is_group, is_rest) = groups in
    let later = groups-no_dot fields (58 ∷ []) rest refl is_rest in
    let middle = digits-no_dot group is_group.0.0.1 in
    rw (split, has_dot-append (before ++ group) rest, has_dot-append before group, h, middle, later) refl
groups-no_dot (field ∷ fields) before text h (inr groups) = absurd (false≢true groups.2)

dotted-has_dot : (text bytes : List ℕ) → IsDotted text bytes → has_dot text ≡ true
dotted-has_dot text bytes h =
    rw (h.spelled, dotted_parts h.a h.b h.c h.d, has_dot-append (decimal h.a) (46 ∷ (decimal h.b ++ 46 ∷ (decimal h.c ++ 46 ∷ decimal h.d))))
    (or_right (has_dot (decimal h.a)) true refl)

-- groups in a text without dots have no dotted tail
pub undotted : (fields before text : List ℕ) → has_dot text ≡ false → IsGroupsAfter true before text fields → IsGroupsAfter false before text fields
undotted [] before text h groups = groups
undotted (field ∷ fields) before text h (inl groups) =
    let (group, rest, split, is_group, is_rest) = groups in
    let apart = or_parts _ _ (rw (split, has_dot-append (before ++ group) rest) at h) in
    inl (group, rest, split, is_group, undotted fields (58 ∷ []) rest apart.1 is_rest)
undotted (field ∷ fields) before text h (inr groups) =
    let (last, bytes, allowed, split, is_dotted, value) = groups in
    let apart = or_parts _ _ (rw (split, has_dot-append before last) at h) in
    absurd (false≢true (sym apart.1 ∙ dotted-has_dot last bytes is_dotted))
