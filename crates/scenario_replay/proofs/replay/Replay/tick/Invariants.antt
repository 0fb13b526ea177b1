use Rattle.std.proofs.Common.{◌+◌, ◌-◌, length, map}
use Rattle.mesh_world.specs.Actions.{tick_from}
use Rattle.mesh_world.specs.Goes.{Goes}
use Rattle.scenario_replay.specs.Shown.{HasWorld}
use Rattle.mesh_world.specs.World.{World}
use Rattle.scenario_replay.proofs.replay.Replay.tick.Given as goal

-- the clocks of the stores in front were moved
abbrev pub invariant-loop-place : goal.invariant-loop-place
invariant-loop-place g l =
    let m = g.S.Store.meaning in
    let many = length l.self.remotes.items + 1 in
    (w : World) → HasWorld w l.self (map m l.fn.stores)
    → Goes (tick_from 0 many l.seconds) (tick_from l.place (many - l.place) l.seconds) w (map m l.fn.stores) (map m l.stores) (λ n. HasWorld n l.self (map m l.stores))
