use Rattle.std.proofs.Common.{◌∙◌, ℕ, ap}
use Rattle.store_api.specs.Calls.{Crosses, Answers, to_grant}
use Rattle.exporter.specs.State.{after_start}
use Rattle.exporter.proofs.Talking.{start_answered}
use Rattle.exporter.proofs.exporter.Exporter.start.Goals as goal

pub returns-in-Ok-clause-talk : goal.returns-in-Ok-clause-talk
returns-in-Ok-clause-talk g c told =
    let sees = g.S.Store.meaning in
    let through = g.S.Store.crossed in
    let call : Crosses sees through (to_grant c.args.self.now.seconds) Answers c.args.store.now c.grant.new.self = rw (← c.self.view_is) (record { crossed = c.in-Ok.ensures.crossed; called = c.in-Ok.ensures.call }) in
    start_answered sees through c.args.self.now c.begin.new.self c.args.store.now c.grant.new.self (c.begin.ensures ∙ ap (λ (n : ℕ). after_start n c.args.self.now) c.in-Ok.ensures.number) call
