-- The labels that an identity's bytes are read as, or the place of the first that is none.
use Rattle.std.specs.Prelude.{ℕ, ◌+◌, List, [], ◌∷◌, length, Bool, true, false, Option, None, Some, Result, Ok, Err, if◌then◌else◌}
use Rattle.record_values.specs.declared.fault.ReadFault.{ReadFault}
use Rattle.record_values.specs.declared.fault.ReadFault.TheVariants.{Label}
use Rattle.record_values.specs.Labels.{label_of}
use Rattle.record_values.specs.Values.{LabelText}
use Rattle.record_reading.specs.Judgement.{◌>>=◌}

abbrev pub label_at : ℕ → Option LabelText → Result LabelText ReadFault
label_at at None = Err (Label at)
label_at at (Some l) = Ok l

-- behind the last ';' stands nothing
abbrev pub end_at : ℕ → List ℕ → Result (List LabelText) ReadFault
end_at at [] = Ok []
end_at at (b ∷ bs) = Err (Label at)

abbrev pub is_nil : List (List ℕ) → Bool
is_nil [] = true
is_nil (part ∷ parts) = false

-- the labels in the parts between the ';', of which the first begins at this place
abbrev pub labels_at : ℕ → List (List ℕ) → Result (List LabelText) ReadFault
labels_at at [] = Ok []
labels_at at (part ∷ parts) =
    if is_nil parts then end_at at part
    else (label_at at (label_of part) >>= λ l. labels_at (at + length part + 1) parts >>= λ others. Ok (l ∷ others))
