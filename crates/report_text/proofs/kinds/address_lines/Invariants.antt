use Rattle.std.proofs.Common.{◌≡◌, ◌++◌, map, drop}
use Rattle.report_text.specs.Text.{address_line}
use Rattle.report_text.proofs.kinds.address_lines.Given as goal

-- the lines so far and those of what is left are all
abbrev pub invariant-loop-row : goal.invariant-loop-row
invariant-loop-row l = l.lines.items ++ map address_line (drop l.row-index l.rows) ≡ map address_line l.rows
