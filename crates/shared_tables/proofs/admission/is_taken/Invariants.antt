use Rattle.std.proofs.Common.{◌≡◌, drop, map}
use Rattle.shared_tables.specs.Admission as rules
use Rattle.shared_tables.specs.Merged.{arrived}
use Rattle.shared_tables.proofs.admission.is_taken.Given as goal

abbrev pub invariant-loop-other : goal.invariant-loop-other
invariant-loop-other l = rules.is_taken (map arrived (drop l.other-index l.sources)) l.name l.number ≡ rules.is_taken (map arrived l.sources) l.name l.number
