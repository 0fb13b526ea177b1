use Rattle.shared_tables.specs.Told.{told}
use Rattle.table_tests.specs.Mesh.{Knows}
use Rattle.table_tests.proofs.tables.tell_all.Given as goal

abbrev pub invariant-loop-line : goal.invariant-loop-line
invariant-loop-line g l =
    (goal.iterator-loop-line g).can_next l.line-iterator
    × (goal.iterator-loop-line g).is_finite l.line-iterator
    × Knows l.mesh.keys.items (told l.mesh.tables)
