use Rattle.std.proofs.Common.{None, Some}
use Rattle.std.proofs.lemmas.Result.{on_ok_weaker}
use Rattle.exporter.specs.Talks.{keep_talk}
use Rattle.mesh_remote.proofs.Ways.{came_to}
use Rattle.mesh_remote.proofs.exporters.keep_over.Goals as goal

pub returns-in-Ok-clause-came : goal.returns-in-Ok-clause-came
returns-in-Ok-clause-came g c =
    came_to _ _ (λ v. (v.state.now, g.S.Store.meaning v.store.now)) (λ request old new heard x. record { end = x.end; call = record { crossed = x.call.crossed; called = x.call.called }; hears = x.hears })
    (keep_talk c.args.exporter.now) c.keep.new.self None c.args.link.now c.keep.new.store c.in-Ok.ensures.talk

pub returns-in-Err-clause-came : goal.returns-in-Err-clause-came
returns-in-Err-clause-came g c = on_ok_weaker c.go_on.result
    (λ told. came_to _ _ (λ v. (v.state.now, g.S.Store.meaning v.store.now)) (λ request old new heard x. record { end = x.end; call = record { crossed = x.call.crossed; called = x.call.called }; hears = x.hears })
    (keep_talk c.args.exporter.now) c.keep.new.self (Some c.in-Err.fault) c.args.link.now c.keep.new.store c.in-Err.ensures.talk)
    c.go_on.ensures
