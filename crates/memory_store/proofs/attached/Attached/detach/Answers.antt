use Rattle.std.proofs.Common.{sym}
use Rattle.std.proofs.lemmas.Result.{on_ok_weaker}
use Rattle.memory_store.proofs.Indexes.{forgotten}
use Rattle.memory_store.proofs.attached.Attached.detach.Goals as goal

pub returns-in-Some-clause-keys : goal.returns-in-Some-clause-keys
returns-in-Some-clause-keys c =
    on_ok_weaker c.forget.result
    (λ is. forgotten c.args.self.now.leases c.remove.new.self c.args.self.now.keys c.forget.new.keys c.args.key.now c.requires c.in-Some.lease (sym c.in-Some.ensures.value) c.remove.ensures.updates.0 is)
    c.forget.ensures
