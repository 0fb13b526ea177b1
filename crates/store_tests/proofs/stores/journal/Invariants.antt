use Rattle.memory_store.specs.Journal.{IsJournal}
use Rattle.store_tests.proofs.stores.journal.Given as goal

-- the words so far are a journal
abbrev pub invariant-loop-word : goal.invariant-loop-word
invariant-loop-word l = IsJournal l.journal.items 0
