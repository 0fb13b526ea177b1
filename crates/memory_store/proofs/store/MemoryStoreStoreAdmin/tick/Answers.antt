use Rattle.memory_store.proofs.Calls.{tick_keeps}
use Rattle.memory_store.proofs.Called.{tick_called}
use Rattle.memory_store.proofs.store.MemoryStoreStoreAdmin.tick.Goals as goal

pub returns-clause-keeps : goal.returns-clause-keeps
returns-clause-keeps c = tick_keeps c.tick_as.result c.args.self.now c.tick_as.new.self c.args.seconds c.tick_as.ensures.contents c.tick_as.ensures.refused

pub returns-clause-call : goal.returns-clause-call
returns-clause-call c = tick_called c.tick_as.result c.args.self.now c.tick_as.new.self c.args.seconds c.tick_as.ensures.refused c.tick_as.ensures.calls c.tick_as.ensures.contents c.tick_as.ensures.refusals (returns-clause-keeps c)
