use Rattle.memory_store.proofs.Calls.{keep_live}
use Rattle.memory_store.proofs.Called.{keep_called}
use Rattle.memory_store.proofs.store.MemoryStoreStore.keep_alive.Goals as goal

pub returns-clause-live : goal.returns-clause-live
returns-clause-live c = keep_live c.keep_as.result c.args.self.now.log c.keep_as.new.self.log c.args.lease c.keep_as.ensures.live c.keep_as.ensures.contents

pub returns-clause-call : goal.returns-clause-call
returns-clause-call c = keep_called c.keep_as.result c.args.self.now c.keep_as.new.self c.args.lease c.keep_as.ensures.refused c.keep_as.ensures.calls c.keep_as.ensures.contents c.keep_as.ensures.live c.keep_as.ensures.no_lease c.keep_as.ensures.refusals
