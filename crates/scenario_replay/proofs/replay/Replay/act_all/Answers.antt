use Rattle.std.proofs.Common.{◌∙◌, List, arith, map, refl, subst}
use Rattle.std.proofs.lemmas.List.{drop_all}
use Rattle.scenario_lang.specs.declared.scenario.Action.{Action}
use Rattle.mesh_world.specs.Actions.{act_all}
use Rattle.mesh_world.specs.Goes.{Goes}
use Rattle.scenario_replay.specs.Shown.{HasWorld}
use Rattle.scenario_replay.proofs.Acts.{act_next}
use Rattle.scenario_replay.proofs.Counts.{many_same}
use Rattle.mesh_world.proofs.Runs.{Goes-none}
use Rattle.scenario_replay.proofs.replay.Replay.act_all.Goals as goal

pub loop-action-init : goal.loop-action-init
loop-action-init g c =
    let m = g.S.Store.meaning in
    record {
      told = c.requires.told;
      many = refl;
      goes = λ w has. Goes-none (act_all c.args.actions.now) w (map m c.args.stores.now) (λ n. HasWorld n c.args.self.now (map m c.args.stores.now)) has.contents has;
    }

pub act-requires-clause-world : goal.act-requires-clause-world
act-requires-clause-world g c =
    let w = c.requires.world in
    let goes = c.loop-action.invariant.goes w.0 w.1 in
    (goes.new, goes.shows)

pub loop-action-preserved : goal.loop-action-preserved
loop-action-preserved g c =
    let m = g.S.Store.meaning in
    let w₀ = c.requires.world in
    let now = c.loop-action.invariant.goes w₀.0 w₀.1 in
    record {
      told = c.in_ok-act.ensures.told;
      many = many_same c.action-item.result c.loop-action.self c.act.new.self (map m c.loop-action.stores) (map m c.act.new.stores) (now.new, now.shows) c.in_ok-act.ensures.done ∙ c.loop-action.invariant.many;
      goes = λ w has. act_next c.args.actions.now c.loop-action.action-index c.action-item.result w c.args.self.now c.loop-action.self c.act.new.self (map m c.args.stores.now) (map m c.loop-action.stores) (map m c.act.new.stores) c.loop-action-test.true c.action-item.is (c.loop-action.invariant.goes w has) c.in_ok-act.ensures.done;
    }

pub returns : goal.returns
returns g c =
    let m = g.S.Store.meaning in
    record {
      done = λ w has.
          subst (λ (l : List Action). Goes (act_all c.args.actions.now) (act_all l) w (map m c.args.stores.now) (map m c.loop-action.stores) (λ n. HasWorld n c.loop-action.self (map m c.loop-action.stores)))
          (drop_all c.loop-action.action-index c.args.actions.now (omega (arith, c.loop-action-test.false))) (c.loop-action.invariant.goes w has);
    }
