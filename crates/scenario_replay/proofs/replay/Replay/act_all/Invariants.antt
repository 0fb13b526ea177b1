use Rattle.std.proofs.Common.{◌≡◌, drop, length, map}
use Rattle.mesh_world.specs.Actions.{act_all}
use Rattle.mesh_world.specs.Goes.{Goes}
use Rattle.scenario_replay.specs.Rows.{IsTold}
use Rattle.scenario_replay.specs.Shown.{HasWorld}
use Rattle.mesh_world.specs.World.{World}
use Rattle.scenario_replay.proofs.replay.Replay.act_all.Given as goal

-- the actions in front were done
abbrev pub invariant-loop-action : goal.invariant-loop-action
invariant-loop-action g l =
    let m = g.S.Store.meaning in
    record {
      told : IsTold l.self;
      many : length l.self.remotes.items ≡ length l.fn.self.remotes.items;
      goes : (w : World) → HasWorld w l.fn.self (map m l.fn.stores) → Goes (act_all l.actions) (act_all (drop l.action-index l.actions)) w (map m l.fn.stores) (map m l.stores) (λ n. HasWorld n l.self (map m l.stores));
    }
