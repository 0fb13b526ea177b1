use Rattle.std.proofs.Common.{Some, ap, ◌∙◌}
use Rattle.shared_tables.specs.Told.{with_config}
use Rattle.table_tests.proofs.Telling.{knows-config}
use Rattle.table_tests.proofs.tables.tell_config.Goals as goal

pub returns : goal.returns
returns g c =
    let config = Some c.in_ok-check_config.field-0 in
    knows-config _ _ c.requires.known c.args.place config _ (c.readmit.ensures.told ∙ ap (with_config c.args.place config) c.reserve_readmit.ensures.told)
