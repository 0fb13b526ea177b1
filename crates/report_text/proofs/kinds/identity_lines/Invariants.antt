use Rattle.std.proofs.Common.{◌≡◌, ◌++◌, map, drop}
use Rattle.report_text.specs.Text.{identity_line}
use Rattle.report_text.proofs.kinds.identity_lines.Given as goal

-- the lines so far and those of what is left are all
abbrev pub invariant-loop-row : goal.invariant-loop-row
invariant-loop-row l = l.lines.items ++ map identity_line (drop l.row-index l.rows) ≡ map identity_line l.rows
