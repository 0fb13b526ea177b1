use Rattle.std.proofs.Common.{◌≡◌, ◌++◌, drop, take}
use Rattle.std.specs.List.{All, flat_map}
use Rattle.record_values.specs.Labels.{IsLabel, label_text}
use Rattle.mesh_records.proofs.write.labels_text.Given as goal

-- the text so far and that of the rest are the text of all
abbrev pub invariant-loop-label : goal.invariant-loop-label
invariant-loop-label l = record {
  text : l.text.items ++ flat_map label_text (drop l.label-index l.labels) ≡ flat_map label_text l.labels;
  labels : All IsLabel (take l.label-index l.labels);
}
