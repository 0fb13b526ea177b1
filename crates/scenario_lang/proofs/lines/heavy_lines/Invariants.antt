use Rattle.std.proofs.Common.{◌≡◌, ◌+◌, ◌≤◌, drop}
use Rattle.scenario_lang.specs.Lines as lines
use Rattle.scenario_lang.proofs.lines.heavy_lines.Given as goal

abbrev pub invariant-loop-action : goal.invariant-loop-action
invariant-loop-action l = record {
  count : l.count + lines.heavy_lines (drop l.action-index l.actions) ≡ lines.heavy_lines l.actions;
  most : l.count ≤ l.action-index;
}
