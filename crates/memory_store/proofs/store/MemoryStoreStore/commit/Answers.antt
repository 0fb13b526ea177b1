use Rattle.std.proofs.lemmas.Result.{on_ok_weaker}
use Rattle.memory_store.proofs.Calls.{commit_makes}
use Rattle.memory_store.proofs.Called.{commit_called}
use Rattle.memory_store.proofs.store.MemoryStoreStore.commit.Goals as goal

pub returns-clause-made : goal.returns-clause-made
returns-clause-made c = on_ok_weaker c.commit_as.result (λ log. commit_makes c.args.self.now c.commit_as.new.self 0 c.args.ops.now log c.commit_as.ensures.calls) c.commit_as.ensures.log

pub returns-clause-call : goal.returns-clause-call
returns-clause-call c = commit_called c.commit_as.result c.args.self.now c.commit_as.new.self c.args.ops.now c.commit_as.ensures.refused c.commit_as.ensures.calls c.commit_as.ensures.contents
    c.commit_as.ensures.all_live c.commit_as.ensures.no_lease c.commit_as.ensures.not_lost c.commit_as.ensures.not_compacted
