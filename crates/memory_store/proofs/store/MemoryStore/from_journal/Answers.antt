use Rattle.std.proofs.Common.{◌≡◌, ◌++◌, List, ap, subst, ◌∙◌, arith}
use Rattle.memory_store.specs.declared.live.Made.{Made}
use Rattle.memory_store.specs.Entries.{StoreLog, contents_of}
use Rattle.memory_store.specs.Journal.{compaction, log_of_journal}
use Rattle.memory_store.specs.Kept.{IsCurrentIn, history_in}
use Rattle.memory_store.specs.Writers.{writers_of}
use Rattle.memory_store.proofs.Journals.{contents_are, kept_journal, writers_are}
use Rattle.memory_store.proofs.store.MemoryStore.from_journal.Goals as goal

log_is : (c : goal.After-new-2) → c.note_compaction.result ≡ log_of_journal c.args.journal.items c.args.compacted
log_is c = c.note_compaction.ensures ∙ ap (λ (log : StoreLog). log ++ compaction c.args.compacted) c.in_ok-history.ensures.log

pub invariant_of-result : goal.invariant_of-result
invariant_of-result c =
    kept_journal c.args.journal.items c.args.compacted c.note_compaction.result c.in_ok-history.field-0.history.items c.new.result c.in_ok-current.current c.requires (log_is c)
    c.in_ok-history.ensures.history c.in_ok-history.ensures.writers c.new.ensures (omega (arith, c.in_ok-history.history.ok, c.in_ok-history.history.small))
    (subst (λ (history : List Made). IsCurrentIn (history_in history) c.in_ok-current.current) c.as_slice.ensures.value c.in_ok-current.ensures)

pub returns-clause-contents : goal.returns-clause-contents
returns-clause-contents c = ap contents_of (log_is c) ∙ contents_are c.args.journal.items c.args.compacted c.requires

pub returns-clause-writers : goal.returns-clause-writers
returns-clause-writers c = ap writers_of (log_is c) ∙ writers_are c.args.journal.items c.args.compacted c.requires
