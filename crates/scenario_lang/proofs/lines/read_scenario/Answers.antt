use Rattle.mesh_text.specs.Addresses.{split_at}
use Rattle.scenario_lang.proofs.Validity.{text_valid}
use Rattle.scenario_lang.proofs.lines.read_scenario.Goals as goal

pub returns-clause-valid : goal.returns-clause-valid
returns-clause-valid c = text_valid c.args.mode (split_at 10 c.args.bytes.now) c.in-Ok.scenario c.in-Ok.ensures
