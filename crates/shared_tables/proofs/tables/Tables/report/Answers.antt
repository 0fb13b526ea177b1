use Rattle.shared_tables.proofs.Merges.{is_report}
use Rattle.shared_tables.proofs.tables.Tables.report.Goals as goal

pub returns : goal.returns
returns g c =
    let t = c.args.self.now in
    is_report t.limit t.number t.sources.items c.as_slice.result.now c.in_ok-merged.merged c.new.result c.in_ok-least_rows.field-0 c.new-2.result
    c.as_slice.ensures.value c.in_ok-merged.ensures c.new.ensures c.in_ok-least_rows.ensures c.new-2.ensures
