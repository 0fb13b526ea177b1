use Rattle.std.proofs.Common.{ap, sym, ◌∙◌}
use Rattle.table_tests.specs.Mesh.{is_told}
use Rattle.table_tests.proofs.Telling.{knows-row, row_is_change}
use Rattle.table_tests.proofs.tables.tell_row.Goals as goal

pub tell_change-requires-clause-change : goal.tell_change-requires-clause-change
tell_change-requires-clause-change g c =
    row_is_change _ _ c.requires.known c.args.place c.args.row c.requires.row
    (ap (is_told c.args.place c.args.row.key) (sym c.as_slice.ensures.value) ∙ sym c.is_told.ensures ∙ c.if-is_told.false)

pub returns : goal.returns
returns g c = knows-row _ _ c.requires.known c.args.place c.args.row _ c.in_ok-clone.ensures.cases _ c.in_ok-push.ensures.items _ c.in_ok-tell_change.ensures
