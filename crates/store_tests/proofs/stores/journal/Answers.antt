use Rattle.std.proofs.Common.{List, sym, subst, arith}
use Rattle.store_api.specs.declared.change.Revision.{Revision}
use Rattle.memory_store.specs.Journal.{IsJournal}
use Rattle.memory_store.proofs.CallerLemmas.{journal_put}
use Rattle.store_tests.proofs.stores.journal.Goals as goal

pub loop-word-preserved : goal.loop-word-preserved
loop-word-preserved c =
    subst (λ (journal : List Revision). IsJournal journal 0) (sym c.in_ok-push.ensures.items)
    (journal_put c.loop-word.journal.items 0 c.in_ok-putting.field-0 _ _ c.loop-word.invariant (omega (arith, c.len.ensures, c.in_ok-putting.ensures.number)) c.in_ok-putting.ensures.changes)
