use Rattle.std.proofs.Common.{◌≤◌, ℕ, OnOk, length, map, slice_set, subst, sym}
use Rattle.mesh_world.specs.Actions.{compact}
use Rattle.scenario_replay.specs.Shown.{Makes}
use Rattle.scenario_replay.proofs.Answered.{done_compacted}
use Rattle.scenario_replay.proofs.replay.Replay.compact.Goals as goal

pub returns-clause-done : goal.returns-clause-done
returns-clause-done g c =
    let replay = c.args.self.now in
    let meaning = g.S.Store.meaning in
    let stores = c.args.stores.now in
    let within : c.place_of.result ≤ length replay.remotes.items = subst (λ (k : ℕ). k ≤ length replay.remotes.items) (sym c.place_of.ensures) c.requires.place in
    subst (λ (k : ℕ). OnOk c.compact.result (Makes (compact k c.args.upto) replay replay (map meaning stores) (map meaning (slice_set stores c.place_of.result c.compact.new.store)))) c.place_of.ensures
    (done_compacted meaning stores replay c.place_of.result within c.index-stores-place_of.result c.compact.new.store c.args.upto c.compact.result c.compact.ensures.called)
