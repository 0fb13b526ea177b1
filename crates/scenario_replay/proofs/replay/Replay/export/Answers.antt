use Rattle.std.proofs.Common.{ap, ◌+◌, refl, arith}
use Rattle.std.specs.Vec.{with_item}
use Rattle.exporter.specs.State.{turns}
use Rattle.exporter.specs.Talks.{export_talk}
use Rattle.scenario_lang.specs.declared.scenario.LinkName.TheVariants as link
use Rattle.mesh_world.specs.Actions.{came_to}
use Rattle.scenario_replay.proofs.Spoken.{done_spoken}
use Rattle.scenario_replay.proofs.Worlds.{writable_at}
use Rattle.mesh_remote.specs.declared.agent.Agent.{Agent}
use Rattle.scenario_replay.proofs.Sightings.{kept_tables}
use Rattle.scenario_replay.proofs.replay.Replay.export.Goals as goal

pub export-requires : goal.export-requires
export-requires g c = record { writable = writable_at g.S.Store.meaning c.args.stores.now c.args.self.now (c.args.remote + 1) (omega arith) c.index-stores-remote.result c.requires.world }

pub returns : goal.returns
returns g c = record {
  done = done_spoken g.S.Store.meaning c.args.stores.now c.args.remote c.index-stores-remote.result c.export.new.store c.args.self.now
      (record c.args.self.now { remotes = with_item c.args.self.now.remotes c.args.remote c.export.new.self })
      c.index_mut.result.now c.export.new.self c.requires.remote c.index_mut.ensures.value
      (record { local = refl; number = refl; remotes = refl; reports = refl; text = refl }) link.Exporter (λ l r. refl) (λ r. export_talk (turns c.args.most r.exporter) r.exporter) came_to c.export.result c.export.ensures.speaks;
  told = kept_tables c.args.self.now.number c.args.self.now.remotes.items c.args.self.now.sighting c.args.remote c.index_mut.result.now c.export.new.self c.index_mut.ensures.value (ap (λ (a : Agent). a.view) c.export.ensures.agent) c.requires.told;
}
