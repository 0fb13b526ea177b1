use Rattle.std.proofs.Common.{◌≡◌, ◌++◌, ◌∷◌, drop}
use Rattle.std.specs.List.{flat_map}
use Rattle.record_values.specs.Labels.{label_text}
use Rattle.mesh_text.specs.Escapes.{escaped_byte}
use Rattle.report_text.specs.Words.{labels_word}
use Rattle.report_text.proofs.words.push_labels.Given as goal

-- the line so far and what is left are all
abbrev pub invariant-loop-label : goal.invariant-loop-label
invariant-loop-label l = l.line ++ flat_map escaped_byte (flat_map label_text (drop l.label-index l.labels)) ≡ l.fn.line ++ 32 ∷ labels_word l.labels
