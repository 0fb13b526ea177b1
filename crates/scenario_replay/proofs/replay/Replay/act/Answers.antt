use Rattle.std.proofs.Common.{ℕ, ◌+◌, ap, length, map, refl, sym}
use Rattle.indexmap.proofs.MapLemmas.{OnOk-map}
use Rattle.scenario_lang.specs.declared.scenario.Action.TheVariants as action
use Rattle.mesh_world.specs.Actions.{changes, compact, export, keep, place_of, reported, restarted, start, tick_from, turn, write_raw}
use Rattle.mesh_world.specs.World.{World}
use Rattle.scenario_replay.proofs.Acts.{act_as}
use Rattle.scenario_replay.proofs.SourcesTold.{own_views}
use Rattle.scenario_replay.proofs.replay.Replay.act.Goals as goal

pub returns-in-Start-clause-done : goal.returns-in-Start-clause-done
returns-in-Start-clause-done g c =
    let m = g.S.Store.meaning in
    OnOk-map c.start.result _ _
    (λ makes. act_as c.args.action.now (action.Start c.in-Start.remote) (start c.in-Start.remote) c.args.self.now c.start.new.self (map m c.args.stores.now) (map m c.start.new.stores) c.in-Start.is (λ w os. refl) makes)
    c.start.ensures.done

pub returns-in-Keep-clause-done : goal.returns-in-Keep-clause-done
returns-in-Keep-clause-done g c =
    let m = g.S.Store.meaning in
    OnOk-map c.keep.result _ _
    (λ makes. act_as c.args.action.now (action.Keep c.in-Keep.remote) (keep c.in-Keep.remote) c.args.self.now c.keep.new.self (map m c.args.stores.now) (map m c.keep.new.stores) c.in-Keep.is (λ w os. refl) makes)
    c.keep.ensures.done

pub returns-in-Export-clause-done : goal.returns-in-Export-clause-done
returns-in-Export-clause-done g c =
    let m = g.S.Store.meaning in
    OnOk-map c.export.result _ _
    (λ makes. act_as c.args.action.now (action.Export c.in-Export.remote c.in-Export.count) (export c.in-Export.remote c.most.result) c.args.self.now c.export.new.self (map m c.args.stores.now) (map m c.export.new.stores) c.in-Export.is (λ w os. ap (λ (n : ℕ). export c.in-Export.remote n w os) (sym c.most.ensures)) makes)
    c.export.ensures.done

pub returns-in-Turn-clause-done : goal.returns-in-Turn-clause-done
returns-in-Turn-clause-done g c =
    let m = g.S.Store.meaning in
    OnOk-map c.turn.result _ _
    (λ makes. act_as c.args.action.now (action.Turn c.in-Turn.remote c.in-Turn.count) (turn c.in-Turn.remote c.most-in-Turn.result) c.args.self.now c.turn.new.self (map m c.args.stores.now) (map m c.turn.new.stores) c.in-Turn.is (λ w os. ap (λ (n : ℕ). turn c.in-Turn.remote n w os) (sym c.most-in-Turn.ensures)) makes)
    c.turn.ensures.done

pub returns-in-Raw-clause-done : goal.returns-in-Raw-clause-done
returns-in-Raw-clause-done g c =
    let m = g.S.Store.meaning in
    OnOk-map c.write_raw.result _ _
    (λ makes. act_as c.args.action.now (action.Raw c.in-Raw.remote c.in-Raw.write) (write_raw c.in-Raw.remote c.in-Raw.write) c.args.self.now c.write_raw.new.self (map m c.args.stores.now) (map m c.write_raw.new.stores) c.in-Raw.is (λ w os. refl) makes)
    c.write_raw.ensures.done

pub returns-in-Tick-clause-done : goal.returns-in-Tick-clause-done
returns-in-Tick-clause-done g c =
    let m = g.S.Store.meaning in
    OnOk-map c.tick.result _ _
    (λ makes. act_as c.args.action.now (action.Tick c.in-Tick.seconds) (λ (w : World). tick_from 0 (length w.remotes + 1) c.in-Tick.seconds w) c.args.self.now c.tick.new.self (map m c.args.stores.now) (map m c.tick.new.stores) c.in-Tick.is (λ w os. refl) makes)
    c.tick.ensures.done

pub returns-in-Compact-clause-done : goal.returns-in-Compact-clause-done
returns-in-Compact-clause-done g c =
    let m = g.S.Store.meaning in
    OnOk-map c.compact.result _ _
    (λ makes. act_as c.args.action.now (action.Compact c.in-Compact.store c.in-Compact.revision) (compact (place_of c.in-Compact.store) c.in-Compact.revision) c.args.self.now c.compact.new.self (map m c.args.stores.now) (map m c.compact.new.stores) c.in-Compact.is (λ w os. refl) makes)
    c.compact.ensures.done

pub returns-in-RestartAgent-clause-done : goal.returns-in-RestartAgent-clause-done
returns-in-RestartAgent-clause-done g c =
    let m = g.S.Store.meaning in
    OnOk-map c.restart_agent.result _ _
    (λ makes. act_as c.args.action.now (action.RestartAgent) (changes restarted) c.args.self.now c.restart_agent.new.self (map m c.args.stores.now) (map m c.args.stores.now) c.in-RestartAgent.is (λ w os. refl) (makes (map g.S.Store.meaning c.args.stores.now)))
    c.restart_agent.ensures.done

pub returns-in-Report-clause-done : goal.returns-in-Report-clause-done
returns-in-Report-clause-done g c =
    let m = g.S.Store.meaning in
    OnOk-map c.report.result _ _
    (λ makes. act_as c.args.action.now (action.Report) (changes reported) c.args.self.now c.report.new.self (map m c.args.stores.now) (map m c.args.stores.now) c.in-Report.is (λ w os. refl) (makes (map g.S.Store.meaning c.args.stores.now)))
    c.report.ensures.done

pub restart_agent-requires-clause-own : goal.restart_agent-requires-clause-own
restart_agent-requires-clause-own g c = own_views _ _ c.args.self.now.remotes.items c.requires.world.1.shown
