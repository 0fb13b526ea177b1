use Rattle.memory_store.proofs.Called.{grant_called}
use Rattle.memory_store.proofs.store.MemoryStoreStore.grant.Goals as goal

pub returns-clause-call : goal.returns-clause-call
returns-clause-call c = grant_called c.grant_as.result c.args.self.now c.grant_as.new.self c.args.seconds c.grant_as.ensures.refused c.grant_as.ensures.calls c.grant_as.ensures.contents c.grant_as.ensures.fresh c.grant_as.ensures.refusals
