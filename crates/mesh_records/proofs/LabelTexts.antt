-- The text of labels, written label by label.
use Rattle.std.proofs.Common.{◌≡◌, ℕ, ◌+◌, ◌<◌, ◌≤◌, List, ◌∷◌, ◌++◌, sym, ◌∙◌, ap, subst, length, append_assoc, get_or, take, drop}
use Rattle.std.specs.List.{All, flat_map}
use Rattle.std.proofs.lemmas.List.Elements.{All-more}
use Rattle.std.proofs.lemmas.List.{drop_more, take_all}
use Rattle.record_values.specs.Labels.{IsLabel, label_text}
use Rattle.record_values.specs.Values.{LabelText}

-- one more label behind the text so far
pub text_grows : (labels : List LabelText) (i : ℕ) (x : LabelText) (old new : List ℕ) → i < length labels → x ≡ get_or labels i x → new ≡ old ++ label_text x
    → old ++ flat_map label_text (drop i labels) ≡ flat_map label_text labels → new ++ flat_map label_text (drop (i + 1) labels) ≡ flat_map label_text labels
text_grows labels i x old new l is e so_far =
    let rest : drop i labels ≡ x ∷ drop (i + 1) labels = drop_more labels i x l ∙ ap (λ (y : LabelText). y ∷ drop (i + 1) labels) (sym is) in
    ap (λ (t : List ℕ). t ++ flat_map label_text (drop (i + 1) labels)) e
    ∙ append_assoc old (label_text x) (flat_map label_text (drop (i + 1) labels))
    ∙ ap (λ (ls : List LabelText). old ++ flat_map label_text ls) (sym rest) ∙ so_far

pub labels_grow : (labels : List LabelText) (i : ℕ) (x : LabelText) → i < length labels → x ≡ get_or labels i x → IsLabel x → All IsLabel (take i labels) → All IsLabel (take (i + 1) labels)
labels_grow labels i x l is here so_far = All-more IsLabel labels i x l so_far (subst IsLabel is here)

pub all_labels : (labels : List LabelText) (i : ℕ) → length labels ≤ i → All IsLabel (take i labels) → All IsLabel labels
all_labels labels i l h = subst (All IsLabel) (take_all i labels l) h
