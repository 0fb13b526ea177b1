use Rattle.std.proofs.Common.{◌≤◌, ◌<◌, ◌+◌, length, refl, rules, arith}
use Rattle.scenario_replay.proofs.Answered.{ticked_all, ticked_more, ticked_none}
use Rattle.scenario_replay.proofs.Worlds.{has_place}
use Rattle.scenario_replay.proofs.replay.Replay.tick.Goals as goal

pub loop-place-init : goal.loop-place-init
loop-place-init g c = λ w has. ticked_none g.S.Store.meaning c.args.stores.now c.args.self.now (length c.args.self.now.remotes.items + 1) c.args.seconds w has

pub offset_bounds-stores-place : goal.offset_bounds-stores-place
offset_bounds-stores-place g c =
    let le : c.loop-place.place ≤ length c.args.self.now.remotes.items = omega arith in
    let first = has_place g.S.Store.meaning c.args.stores.now c.args.self.now c.loop-place.place le c.requires.world in
    let within : c.loop-place.place < length c.loop-place.stores = omega (arith, first) in
    search rules

pub loop-place-preserved : goal.loop-place-preserved
loop-place-preserved g c = λ w has.
    ticked_more g.S.Store.meaning c.args.stores.now c.loop-place.stores c.args.self.now c.loop-place.place (length c.args.self.now.remotes.items + 1) c.args.seconds c.index-stores-place.result c.tick.new.store (omega arith) (omega arith) c.in_ok-tick.ensures.asked w (c.loop-place.invariant w has)

pub returns-clause-done : goal.returns-clause-done
returns-clause-done g c = λ w has. ticked_all g.S.Store.meaning c.args.stores.now c.loop-place.stores c.args.self.now c.loop-place.place (length c.args.self.now.remotes.items + 1) c.args.seconds (omega arith) refl w has (c.loop-place.invariant w has)
