use Rattle.std.proofs.Common.{◌≡◌, ◌∙◌, ℕ, Some, Err, ap, refl, sym, subst}
use Rattle.store_api.specs.Calls.{Crosses, Answers, Refuses, ending_of, to_keep_alive}
use Rattle.store_api.specs.declared.change.StoreFault.{StoreFault}
use Rattle.exporter.specs.State.{Export}
use Rattle.exporter.proofs.Talking.{keep_answered, keep_refused}
use Rattle.exporter.proofs.exporter.Exporter.keep.Goals as goal

pub returns-in-Ok-clause-talk : goal.returns-in-Ok-clause-talk
returns-in-Ok-clause-talk g c =
    let sees = g.S.Store.meaning in
    let through = g.S.Store.crossed in
    let lease : ℕ = c.in-Some.lease in
    let some : c.args.self.now.lease ≡ Some lease = ap (λ (s : Export). s.lease) (sym c.self.view_is) ∙ c.in-Some.is in
    let call : Crosses sees through (to_keep_alive lease) Answers c.args.store.now c.keep_alive.new.self = record { crossed = c.in-Ok.ensures.crossed; called = c.in-Ok.ensures.call } in
    keep_answered sees through lease c.args.self.now c.args.self.now c.args.store.now c.keep_alive.new.self some refl call

pub returns-in-Err-NoLease-clause-talk : goal.returns-in-Err-NoLease-clause-talk
returns-in-Err-NoLease-clause-talk g c =
    let sees = g.S.Store.meaning in
    let through = g.S.Store.crossed in
    let lease : ℕ = c.in-Some.lease in
    let some : c.args.self.now.lease ≡ Some lease = ap (λ (s : Export). s.lease) (sym c.self.view_is) ∙ c.in-Some.is in
    let call : Crosses sees through (to_keep_alive lease) Refuses c.args.store.now c.keep_alive.new.self =
    subst (λ (fault : StoreFault). Crosses sees through (to_keep_alive lease) (ending_of (Unit {0}) (Err fault)) c.args.store.now c.keep_alive.new.self) c.in-Err-NoLease.field-0-is (record { crossed = c.in-Err-NoLease.ensures.crossed; called = c.in-Err-NoLease.ensures.call }) in
    rw c.lose_lease.ensures.fault (keep_refused sees through lease c.args.self.now c.lose_lease.new.self c.args.store.now c.keep_alive.new.self some c.lose_lease.ensures.stopped call)
