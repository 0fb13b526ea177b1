use Rattle.std.proofs.Common.{◌≡◌, ℕ, List, [], ◌∷◌, Some, Err, ap, subst}
use Rattle.std.specs.List.{IsDistinct}
use Rattle.store_api.specs.Calls.{Crosses, Answers, Refuses, ending_of, to_commit}
use Rattle.store_api.specs.Contents.{dead_lease}
use Rattle.store_api.specs.declared.change.Op.{Op}
use Rattle.store_api.specs.declared.change.StoreFault.{StoreFault}
use Rattle.exporter.specs.State.{next_ops}
use Rattle.exporter.proofs.Talking.{item_answered, item_refused, names_own}
use Rattle.exporter.proofs.exporter.Exporter.export_one.Goals as goal

pub commit-requires-clause-distinct : goal.commit-requires-clause-distinct
unfolding IsDistinct
commit-requires-clause-distinct g c = (tt, tt)

pub returns-in-Ok-clause-talk : goal.returns-in-Ok-clause-talk
returns-in-Ok-clause-talk g c told =
    let sees = g.S.Store.meaning in
    let through = g.S.Store.crossed in
    let call : Crosses sees through (to_commit (next_ops c.args.self.now)) Answers c.args.store.now c.commit.new.self =
    subst (λ (ops : List Op). Crosses sees through (to_commit ops) Answers c.args.store.now c.commit.new.self) c.in_ok-next_op.ensures (record { crossed = c.in-Ok.ensures.crossed; called = c.in-Ok.ensures.call }) in
    item_answered sees through c.args.self.now c.finish_item.new.self c.args.store.now c.commit.new.self c.finish_item.ensures call

pub returns-in-Err-NoLease-clause-talk : goal.returns-in-Err-NoLease-clause-talk
returns-in-Err-NoLease-clause-talk g c told =
    let sees = g.S.Store.meaning in
    let through = g.S.Store.crossed in
    let lease : ℕ = c.in-Err-NoLease.lease in
    let ops : List Op = c.in_ok-next_op.field-0 ∷ [] in
    let call : Crosses sees through (to_commit (next_ops c.args.self.now)) Refuses c.args.store.now c.commit.new.self =
    subst (λ (asked : List Op). Crosses sees through (to_commit asked) Refuses c.args.store.now c.commit.new.self) c.in_ok-next_op.ensures
    (subst (λ (fault : StoreFault). Crosses sees through (to_commit ops) (ending_of ℕ (Err fault)) c.args.store.now c.commit.new.self) c.in-Err-NoLease.field-0-is (record { crossed = c.in-Err-NoLease.ensures.crossed; called = c.in-Err-NoLease.ensures.call })) in
    let named : dead_lease (sees c.commit.new.self).contents.leases (next_ops c.args.self.now) ≡ Some lease =
    subst (λ (asked : List Op). dead_lease (sees c.commit.new.self).contents.leases asked ≡ Some lease) c.in_ok-next_op.ensures (c.in-Err-NoLease.ensures.no_lease lease (ap Err c.in-Err-NoLease.field-0-is)) in
    rw c.lose_lease.ensures.fault
    (item_refused sees through lease c.args.self.now c.lose_lease.new.self c.args.store.now c.commit.new.self
    (names_own (sees c.commit.new.self).contents.leases c.args.self.now lease named) c.lose_lease.ensures.stopped call)
