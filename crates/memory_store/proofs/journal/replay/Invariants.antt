use Rattle.std.proofs.Common.{◌≡◌, map}
use Rattle.store_api.specs.declared.change.Revision.{Revision}
use Rattle.memory_store.specs.Journal.{commits_of_journal, history_of_journal}
use Rattle.memory_store.specs.Kept.{history_in, writers_in}
use Rattle.memory_store.proofs.journal.replay.Given as goal

-- the revisions so far are kept
abbrev pub invariant-loop-revision : goal.invariant-loop-revision
invariant-loop-revision l = record {
  history : history_in l.history.items ≡ history_of_journal l.yielded;
  writers : writers_in l.history.items ≡ map (λ (r : Revision). r.writer) l.yielded;
  log : l.log ≡ commits_of_journal l.yielded;
}
