-- One label at the front of what is left, or none.
use Rattle.std.proofs.Common.{◌≡◌, ℕ, ◌+◌, ◌-◌, ◌<◌, ◌≤◌, ◌==◌, List, [], ◌∷◌, ◌++◌, Option, None, Some, Result, Ok, Err, refl, sym, ◌∙◌, ap, arith, length, take, drop, append_assoc, length-append}
use Rattle.std.specs.List.{slice_split, count_by}
use Rattle.std.proofs.lemmas.Bool.{eq-eqb}
use Rattle.std.proofs.lemmas.List.{take_rest, drop_at, drop-drop, length-drop}
use Rattle.std.proofs.lemmas.List.Splits.{slice_split_none, slice_split_at, length-slice_split}
use Rattle.record_values.specs.declared.fault.ReadFault.{ReadFault}
use Rattle.record_values.specs.declared.fault.ReadFault.TheVariants.{Label}
use Rattle.record_values.specs.Values.{LabelText}
use Rattle.record_values.specs.Labels.{split_once, label_of}
use Rattle.record_reading.specs.Identity.{identity_of}
use Rattle.record_reading.specs.Judgement.{◌>>=◌}
use Rattle.record_reading.specs.LabelReading.{label_at, labels_at}
use Rattle.record_reading.proofs.Cuts.{Cuts, both, cuts, uncut}
use Rattle.record_reading.proofs.Fronts.{with_front}

abbrev pub parts_of : List ℕ → List (List ℕ)
parts_of bytes = slice_split (λ (x : ℕ). x == 59) bytes

-- the label that a part must be, and then the labels behind it
abbrev pub label_then : ℕ → List ℕ → List (List ℕ) → Result (List LabelText) ReadFault
label_then at part parts = label_at at (label_of part) >>= λ l. labels_at (at + length part + 1) parts >>= λ others. Ok (l ∷ others)

pub labels_more : (at : ℕ) (part : List ℕ) (parts : List (List ℕ)) → 0 < length parts → labels_at at (part ∷ parts) ≡ label_then at part parts
labels_more at part [] h = absurd (omega arith)
labels_more at part (next ∷ parts) h = refl

pub label_in_front : (at : ℕ) (rest text after : List ℕ) → both text after ≡ split_once 59 rest → labels_at at (parts_of rest) ≡ label_then at text (parts_of after)
label_in_front at rest text after e =
    let cut : Cuts 59 rest text after = cuts 59 rest text after e in
    let split : parts_of rest ≡ text ∷ parts_of after = ap parts_of cut.0 ∙ slice_split_at (λ (x : ℕ). x == 59) text 59 after cut.1 (eq-eqb 59 59 refl) in
    let some : length (parts_of after) ≡ count_by (λ (x : ℕ). x == 59) after + 1 = length-slice_split (λ (x : ℕ). x == 59) after in
    ap (labels_at at) split ∙ labels_more at text (parts_of after) (omega arith)

unended : (at : ℕ) (rest : List ℕ) → 0 < length rest → labels_at at (rest ∷ []) ≡ Err (Label at)
unended at [] h = absurd (omega arith)
unended at (b ∷ bs) h = refl

pub no_end : (at : ℕ) (rest : List ℕ) → 0 < length rest → None ≡ split_once 59 rest → labels_at at (parts_of rest) ≡ Err (Label at)
no_end at rest h e = ap (labels_at at) (slice_split_none (λ (x : ℕ). x == 59) rest (uncut 59 rest e)) ∙ unended at rest h

drop_past : (p q : List ℕ) → drop (length p + 1) (p ++ 59 ∷ q) ≡ q
drop_past p q =
    let whole : p ++ 59 ∷ [] ++ q ≡ p ++ 59 ∷ q = append_assoc p (59 ∷ []) q in
    let size : length (p ++ 59 ∷ []) ≡ length p + 1 = length-append p (59 ∷ []) ∙ omega arith in
    ap (drop (length p + 1)) (sym whole) ∙ drop_at (p ++ 59 ∷ []) q (length p + 1) size

-- what is left behind a label
pub behind : (at : ℕ) (bytes text after : List ℕ) → both text after ≡ split_once 59 (drop at bytes) → drop (at + (length text + 1)) bytes ≡ after
behind at bytes text after e =
    let cut : Cuts 59 (drop at bytes) text after = cuts 59 (drop at bytes) text after e in
    sym (drop-drop (length text + 1) at bytes) ∙ ap (drop (length text + 1)) cut.0 ∙ drop_past text after

-- a label ends within the bytes
pub within : (at : ℕ) (bytes text after : List ℕ) → at ≤ length bytes → both text after ≡ split_once 59 (drop at bytes) → at + (length text + 1) ≤ length bytes
within at bytes text after h e =
    let cut : Cuts 59 (drop at bytes) text after = cuts 59 (drop at bytes) text after e in
    let size : length (drop at bytes) ≡ length (text ++ 59 ∷ after) = ap length cut.0 in
    let sum : length (text ++ 59 ∷ after) ≡ length text + length (59 ∷ after) = length-append text (59 ∷ after) in
    let left : length (drop at bytes) ≡ length bytes - at = length-drop at bytes in
    omega arith

-- the label in front joins those so far
pub label_joins : (at : ℕ) (bytes text after : List ℕ) (labels : List LabelText) (l : LabelText)
    → both text after ≡ split_once 59 (drop at bytes) → Some l ≡ label_of text
    → with_front (labels ++ l ∷ []) (labels_at (at + (length text + 1)) (parts_of (drop (at + (length text + 1)) bytes))) ≡ with_front labels (labels_at at (parts_of (drop at bytes)))
label_joins at bytes text after labels l e read =
    let place : at + (length text + 1) ≡ at + length text + 1 = omega arith in
    let front : labels_at at (parts_of (drop at bytes)) ≡ label_then at text (parts_of after) = label_in_front at (drop at bytes) text after e in
    rw (behind at bytes text after e, place, front, sym read) (joins labels l (labels_at (at + length text + 1) (parts_of after)))
  where
    joins : (labels : List LabelText) (l : LabelText) (others : Result (List LabelText) ReadFault) → with_front (labels ++ l ∷ []) others ≡ with_front labels (others >>= λ ls. Ok (l ∷ ls))
    joins labels l (Ok ls) = ap (λ (xs : List LabelText). Ok xs) (append_assoc labels (l ∷ []) ls)
    joins labels l (Err e) = refl

-- a label that cannot be read is the fault of all
pub unreadable : (at : ℕ) (bytes : List ℕ) (labels : List LabelText)
    → with_front labels (labels_at at (parts_of (drop at bytes))) ≡ labels_at 0 (parts_of bytes)
    → labels_at at (parts_of (drop at bytes)) ≡ Err (Label at) → identity_of bytes ≡ Err (Label at)
unfolding identity_of
unreadable at bytes labels whole here =
    ap (λ (r : Result (List LabelText) ReadFault). r >>= λ ls. Ok (record { labels = ls })) (sym whole ∙ ap (with_front labels) here)

pub no_label : (at : ℕ) (bytes text after : List ℕ) → both text after ≡ split_once 59 (drop at bytes) → None ≡ label_of text
    → labels_at at (parts_of (drop at bytes)) ≡ Err (Label at)
no_label at bytes text after e none =
    label_in_front at (drop at bytes) text after e
    ∙ ap (λ (o : Option LabelText). label_at at o >>= λ l. labels_at (at + length text + 1) (parts_of after) >>= λ others. Ok (l ∷ others)) (sym none)

-- a slice from a place on
pub from_place : (at : ℕ) (bytes text after : List ℕ) → both text after ≡ split_once 59 (take (length bytes - at) (drop at bytes)) → both text after ≡ split_once 59 (drop at bytes)
from_place at bytes text after e = e ∙ ap (split_once 59) (take_rest bytes at)

pub left : (at : ℕ) (bytes : List ℕ) → at < length bytes → 0 < length (drop at bytes)
left at bytes h = let l : length (drop at bytes) ≡ length bytes - at = length-drop at bytes in omega arith
