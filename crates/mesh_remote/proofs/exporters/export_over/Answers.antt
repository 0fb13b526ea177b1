use Rattle.std.proofs.Common.{refl, Err, None, Some}
use Rattle.std.proofs.lemmas.Result.{on_ok_weaker}
use Rattle.exporter.specs.State.{turns}
use Rattle.exporter.specs.Talks.{export_talk}
use Rattle.mesh_remote.proofs.Ways.{came_to, other_answer}
use Rattle.mesh_remote.proofs.exporters.export_over.Goals as goal

pub returns-in-Ok-clause-came : goal.returns-in-Ok-clause-came
returns-in-Ok-clause-came g c =
    came_to _ _ (λ v. (v.state.now, g.S.Store.meaning v.store.now)) (λ request old new heard x. record { end = x.end; call = record { crossed = x.call.crossed; called = x.call.called }; hears = x.hears })
    (export_talk (turns c.args.most c.args.exporter.now) c.args.exporter.now) c.export.new.self None c.args.link.now c.export.new.store (c.in-Ok.ensures.talk (λ e. cc))

pub returns-in-Err-clause-came : goal.returns-in-Err-clause-came
returns-in-Err-clause-came g c = on_ok_weaker c.go_on.result
    (λ told. came_to _ _ (λ v. (v.state.now, g.S.Store.meaning v.store.now)) (λ request old new heard x. record { end = x.end; call = record { crossed = x.call.crossed; called = x.call.called }; hears = x.hears })
    (export_talk (turns c.args.most c.args.exporter.now) c.args.exporter.now) c.export.new.self (Some c.in-Err.fault) c.args.link.now c.export.new.store (c.in-Err.ensures.talk (other_answer (Err c.in-Err.fault) c.in-Err.fault refl told)))
    c.go_on.ensures
