use Rattle.std.proofs.Common.{◌≡◌, ◌++◌, ◌∷◌, [], List, ap, subst, sym, ◌∙◌, arith}
use Rattle.store_api.specs.declared.change.Revision.{Revision}
use Rattle.memory_store.specs.Journal.{IsJournal}
use Rattle.memory_store.proofs.CallerLemmas.{journal_none, journal_put}
use Rattle.replay_tests.proofs.replays.journals.config_and_node.Goals as goal

pub returns : goal.returns
returns c =
    let config : Revision = c.in_ok-config.config in
    let node : Revision = c.in_ok-node.node in
    let first : c.push.new.self.items ≡ [] ++ config ∷ [] = c.in_ok-push.ensures.items ∙ ap (λ (l : List Revision). l ++ config ∷ []) c.new-journal.ensures.items in
    let both : c.push-2.new.self.items ≡ ([] ++ config ∷ []) ++ node ∷ [] = c.in_ok-push-2.ensures.items ∙ ap (λ (l : List Revision). l ++ node ∷ []) first in
    let one : IsJournal ([] ++ config ∷ []) 0 = journal_put [] 0 config _ _ journal_none (omega (arith, c.in_ok-config.ensures.number)) c.in_ok-config.ensures.changes in
    let two : IsJournal (([] ++ config ∷ []) ++ node ∷ []) 0 = journal_put ([] ++ config ∷ []) 0 node _ _ one (omega (arith, c.in_ok-node.ensures.number)) c.in_ok-node.ensures.changes in
    subst (λ (l : List Revision). IsJournal l 0) (sym both) two
