use Rattle.std.proofs.Common.{◌≡◌, ◌++◌, ℕ, List, drop}
use Rattle.std.specs.List.{flat_map}
use Rattle.report_text.proofs.lines.push_all.Given as goal

-- the lines so far and those that are left are all
abbrev pub invariant-loop-line : goal.invariant-loop-line
invariant-loop-line l = l.out ++ flat_map (λ (line : List ℕ). line) (drop l.line-index l.lines) ≡ l.fn.out ++ flat_map (λ (line : List ℕ). line) l.lines
