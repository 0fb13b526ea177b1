use Rattle.std.proofs.Common.{◌≡◌, ◌≤◌, ◌==◌, ◌-◌, length, drop}
use Rattle.std.specs.List.{slice_split}
use Rattle.record_reading.specs.LabelReading.{labels_at}
use Rattle.record_reading.proofs.Fronts.{with_front}
use Rattle.record_reading.proofs.identity.read_identity.Given as goal

-- what was read so far, and what the rest gives, are what all gives
abbrev pub invariant-loop-at : goal.invariant-loop-at
invariant-loop-at l = record {
  in_range : l.at ≤ length l.bytes;
  gives : with_front l.labels.items (labels_at l.at (slice_split (λ x. x == 59) (drop l.at l.bytes))) ≡ labels_at 0 (slice_split (λ x. x == 59) l.bytes);
}

abbrev pub decreases-loop-at : goal.decreases-loop-at
decreases-loop-at l = length l.bytes - l.at
