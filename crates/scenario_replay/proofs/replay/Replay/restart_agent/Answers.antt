use Rattle.std.proofs.Common.{◌∙◌, ◌<◌, length, arith, refl}
use Rattle.std.proofs.lemmas.List.{length-set}
use Rattle.store_api.specs.Spans.{unread}
use Rattle.mesh_world.specs.Actions.{changes, restarted}
use Rattle.mesh_world.specs.World.{with_reader}
use Rattle.scenario_replay.proofs.Changes.{AreFront-more, AreFront-none, restarted_all}
use Rattle.shared_tables.specs.Told.{told}
use Rattle.scenario_replay.proofs.Sightings.{all_set, changed_tables, same_view, sources_many}
use Rattle.scenario_replay.proofs.replay.Replay.restart_agent.Goals as goal

pub loop-place-init : goal.loop-place-init
loop-place-init c = record {
  many = refl;
  local = refl;
  number = refl;
  reports = refl;
  text = refl;
  own = c.requires.own;
  told = c.requires.told;
  front = AreFront-none (with_reader (λ r. unread)) c.args.self.now.remotes.items;
}

pub loop-place-preserved : goal.loop-place-preserved
loop-place-preserved c =
    let now = c.loop-place.self.remotes.items in
    let lt : c.loop-place.place < length now = omega (arith, c.loop-place-test.true, c.loop-place.invariant.many, c.loop-place.auto.place-end, c.len-place-end.ensures) in
    record {
      many = length-set now c.loop-place.place c.restart_agent.new.self ∙ c.loop-place.invariant.many;
      local = c.loop-place.invariant.local;
      number = c.loop-place.invariant.number;
      reports = c.loop-place.invariant.reports;
      text = c.loop-place.invariant.text;
      own = all_set now c.loop-place.place c.restart_agent.new.self c.in_ok-restart_agent.ensures.own c.loop-place.invariant.own;
      told = changed_tables c.loop-place.self.number now c.loop-place.self.sighting c.forget.new.self c.loop-place.place c.index_mut.result.now c.restart_agent.new.self c.forget.ensures.tables c.forget.ensures.told c.index_mut.ensures.value
          (same_view c.loop-place.place now c.index_mut.result.now c.restart_agent.new.self c.index_mut.ensures.value lt c.loop-place.invariant.own c.restart_agent.ensures.exporter c.in_ok-restart_agent.ensures.own) c.loop-place.invariant.told;
      front = AreFront-more (with_reader (λ r. unread)) c.loop-place.place c.args.self.now.remotes.items now c.index_mut.result.now c.restart_agent.new.self (λ w. refl) lt c.index_mut.ensures.value c.in_ok-restart_agent.ensures.changes c.loop-place.invariant.front;
    }

pub returns : goal.returns
returns c =
    let i = c.loop-place.invariant in
    record {
      told = i.told;
      done = restarted_all (with_reader (λ r. unread)) (changes restarted) restarted c.loop-place.place c.args.self.now c.loop-place.self (λ w more. refl) (λ w. refl) (omega (arith, c.loop-place-test.false, c.loop-place.auto.place-end, c.len-place-end.ensures)) i.many i.local i.number i.reports i.text i.front;
    }

pub forget-requires : goal.forget-requires
forget-requires c = omega (arith, c.loop-place-test.true, c.loop-place.invariant.many, c.loop-place.auto.place-end, c.len-place-end.ensures, (sources_many c.loop-place.self.sighting.told.items c.loop-place.self.remotes.items (told c.loop-place.self.sighting.tables).sources c.loop-place.invariant.told.sources).0)
