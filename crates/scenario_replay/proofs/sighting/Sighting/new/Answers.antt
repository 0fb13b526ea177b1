use Rattle.scenario_replay.proofs.Sightings.{tables_new}
use Rattle.scenario_replay.proofs.sighting.Sighting.new.Goals as goal

pub returns : goal.returns
returns c =
    tables_new c.in_ok-clone.field-0 c.args.number c.in_ok-names.names.items c.args.remotes.now (record { tables = c.in_ok-new.field-0; told = c.in_ok-none_told.field-0 }) c.in_ok-new.ensures.told c.in_ok-names.ensures c.in_ok-none_told.ensures c.requires.own
