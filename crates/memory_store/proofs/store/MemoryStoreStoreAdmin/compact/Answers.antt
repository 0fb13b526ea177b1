use Rattle.memory_store.proofs.Called.{compact_called}
use Rattle.memory_store.proofs.store.MemoryStoreStoreAdmin.compact.Goals as goal

pub returns-clause-call : goal.returns-clause-call
returns-clause-call c = compact_called c.compact_as.result c.args.self.now c.compact_as.new.self c.args.upto c.compact_as.ensures.served c.compact_as.ensures.calls c.compact_as.ensures.contents
