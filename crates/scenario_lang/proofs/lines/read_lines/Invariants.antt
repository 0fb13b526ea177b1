use Rattle.std.proofs.Common.{◌≡◌, ◌+◌, ◌≤◌, length}
use Rattle.mesh_text.specs.Addresses.{split_at}
use Rattle.scenario_lang.specs.Lines.{lines_said, no_lines}
use Rattle.scenario_lang.proofs.lines.read_lines.Given as goal

abbrev pub invariant-loop-more : goal.invariant-loop-more
invariant-loop-more l = record {
  said : lines_said l.mode l.draft l.number (split_at 10 l.left) ≡ lines_said l.mode no_lines 1 (split_at 10 l.text);
  number : l.number + length l.left ≤ 1 + length l.text;
}

abbrev pub decreases-loop-more : goal.decreases-loop-more
decreases-loop-more l = length l.left
