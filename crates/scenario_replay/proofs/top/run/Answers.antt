use Rattle.std.proofs.Common.{◌∙◌, map}
use Rattle.std.proofs.lemmas.List.{length-map}
use Rattle.mesh_world.specs.Runs.{contents_of}
use Rattle.mesh_world.specs.World.{first_world}
use Rattle.scenario_replay.proofs.WholeRun.{actions_fit, reports_of}
use Rattle.scenario_replay.proofs.top.run.Goals as goal

pub act_all-requires-clause-world : goal.act_all-requires-clause-world
act_all-requires-clause-world g c =
    let before = map g.S.Store.meaning c.args.stores.now in
    (first_world c.args.scenario.now (contents_of before), c.in_ok-replay.ensures.world before (length-map c.args.stores.now g.S.Store.meaning ∙ c.requires.many) c.requires.open)

pub act_all-requires-clause-actions : goal.act_all-requires-clause-actions
act_all-requires-clause-actions g c =
    let before = map g.S.Store.meaning c.args.stores.now in
    actions_fit c.args.scenario.now c.as_slice.result.now c.in_ok-replay.replay before c.as_slice.ensures (c.in_ok-replay.ensures.world before (length-map c.args.stores.now g.S.Store.meaning ∙ c.requires.many) c.requires.open) c.requires.valid.actions

pub returns : goal.returns
returns g c =
    let before = map g.S.Store.meaning c.args.stores.now in
    record {
      reports = reports_of c.args.scenario.now c.as_slice.result.now c.in_ok-replay.replay c.act_all.new.self before (map g.S.Store.meaning c.act_all.new.stores) c.as_slice.ensures (c.in_ok-replay.ensures.world before (length-map c.args.stores.now g.S.Store.meaning ∙ c.requires.many) c.requires.open) c.in_ok-act_all.ensures.done;
    }
