use Rattle.std.proofs.Common.{ap, refl}
use Rattle.std.specs.Vec.{with_item}
use Rattle.exporter.specs.Talks.{start_talk}
use Rattle.scenario_lang.specs.declared.scenario.LinkName.TheVariants as link
use Rattle.mesh_world.specs.Actions.{came_to}
use Rattle.scenario_replay.proofs.Spoken.{done_spoken}
use Rattle.mesh_remote.specs.declared.agent.Agent.{Agent}
use Rattle.scenario_replay.proofs.Sightings.{kept_tables}
use Rattle.scenario_replay.proofs.replay.Replay.start.Goals as goal

pub returns : goal.returns
returns g c = record {
  done = done_spoken g.S.Store.meaning c.args.stores.now c.args.remote c.index-stores-remote.result c.start.new.store c.args.self.now
      (record c.args.self.now { remotes = with_item c.args.self.now.remotes c.args.remote c.start.new.self })
      c.index_mut.result.now c.start.new.self c.requires.remote c.index_mut.ensures.value
      (record { local = refl; number = refl; remotes = refl; reports = refl; text = refl }) link.Exporter (λ l r. refl) (λ r. start_talk r.exporter) came_to c.start.result c.start.ensures.speaks;
  told = kept_tables c.args.self.now.number c.args.self.now.remotes.items c.args.self.now.sighting c.args.remote c.index_mut.result.now c.start.new.self c.index_mut.ensures.value (ap (λ (a : Agent). a.view) c.start.ensures.agent) c.requires.told;
}
