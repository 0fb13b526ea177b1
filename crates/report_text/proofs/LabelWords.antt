-- The word for labels, label by label.
use Rattle.std.proofs.Common.{true, false, ◌≡◌, ℕ, ◌<◌, List, [], ◌∷◌, ◌++◌, length, ap, arith, refl, length-append}
use Rattle.std.specs.List.{flat_map}
use Rattle.std.specs.Prelude.{◌==◌}
use Rattle.std.proofs.lemmas.Bool.{eqb-true}
use Rattle.std.proofs.lemmas.Grind.{flat_map-append}
use Rattle.record_values.specs.Labels.{label_text}
use Rattle.record_values.specs.Values.{LabelText}
use Rattle.mesh_text.specs.Escapes.{escaped, escaped_byte}
use Rattle.report_text.specs.Words.{labels_word}
use Rattle.report_text.proofs.PlainBytes.{word_of}

-- the parts of a label, each as a word has it
pub label_parts : (l : LabelText) → flat_map escaped_byte (label_text l) ≡ flat_map escaped_byte l.source ++ (58 ∷ (flat_map escaped_byte l.key ++ (61 ∷ (flat_map escaped_byte l.value ++ 59 ∷ []))))
label_parts l = simp flat_map-append

-- no labels
pub labels_none : (labels : List LabelText) → (length labels == 0) ≡ true → labels_word labels ≡ 45 ∷ []
unfolding escaped
labels_none [] none = refl
labels_none (l ∷ ls) none = absurd (omega (arith, eqb-true (length (l ∷ ls)) 0 none))

-- a label has more than one byte
pub labels_parts : (labels : List LabelText) → (length labels == 0) ≡ false → labels_word labels ≡ flat_map escaped_byte (flat_map label_text labels)
labels_parts [] some = cc
labels_parts (l ∷ ls) some =
    let long : 1 < length (flat_map label_text (l ∷ ls)) = omega (arith, length-append {A = ℕ}) in
    word_of _ (λ none. omega (arith, long, ap length none)) (λ dash. omega (arith, long, ap length dash))
