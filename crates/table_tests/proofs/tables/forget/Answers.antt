use Rattle.table_tests.proofs.Telling.{knows-forgotten}
use Rattle.table_tests.proofs.tables.forget.Goals as goal

pub returns : goal.returns
returns c = knows-forgotten _ _ c.requires.known c.args.place _ c.forget.ensures.told
