-- What a store holds that is made of a journal.
use Rattle.std.proofs.Common.{◌≡◌, ℕ, zero, suc, ◌-◌, ◌^◌, ◌≤◌, List, [], ◌∷◌, ◌++◌, length, map, Some, refl, ap, ap₂, sym, ◌∙◌, subst, append_assoc, arith}
use Rattle.std.proofs.lemmas.List.{append-nil}
use Rattle.store_api.specs.Contents.{Contents, empty_contents}
use Rattle.store_api.specs.History.{History, revision, with_revision}
use Rattle.store_api.specs.Leases.{LeaseTable, no_leases}
use Rattle.store_api.specs.declared.change.Revision.{Revision}
use Rattle.memory_store.specs.declared.live.Current.{Current}
use Rattle.memory_store.specs.declared.live.Made.{Made}
use Rattle.memory_store.specs.declared.entry.StoreEntry.TheVariants.{Committed, Compacted}
use Rattle.memory_store.specs.Entries.{StoreLog, after_entries, contents_of}
use Rattle.memory_store.specs.Formed.{IsFormed}
use Rattle.memory_store.specs.Journal.{AreNext, IsJournal, commits_of_journal, compaction, contents_of_journal, history_of_journal, log_of_journal}
use Rattle.memory_store.specs.Kept.{IsCurrentIn, IsKept, history_in, writers_in}
use Rattle.memory_store.specs.Writers.{writers_after, writers_of}
use Rattle.memory_store.proofs.Calls.{after_both}
use Rattle.memory_store.proofs.Forms.{with_one}
use Rattle.memory_store.proofs.Logs.{with_some}
use Rattle.memory_store.proofs.Writing.{added_more, added_none, writers_both}

-- ---- its contents
abbrev with_history : Contents → History → Contents
with_history contents history = record contents { history = history }

after_commits : (contents : Contents) (journal : List Revision) → AreNext contents.history journal
    → after_entries contents (commits_of_journal journal) ≡ with_history contents (contents.history ++ history_of_journal journal)
after_commits contents [] next = ap (with_history contents) (sym (append-nil contents.history))
after_commits contents (r ∷ journal) next =
    ap (λ (c : Contents). after_entries c (commits_of_journal journal)) (ap (with_history contents) (with_some contents.history r.changes next.0.form.some))
    ∙ after_commits (with_history contents (contents.history ++ r.changes ∷ [])) journal next.1
    ∙ ap (with_history contents) (append_assoc contents.history (r.changes ∷ []) (history_of_journal journal))

after_compaction : (contents : Contents) (upto : ℕ) → contents.compacted ≡ 0 → upto ≤ revision contents.history → after_entries contents (compaction upto) ≡ record contents { compacted = upto }
after_compaction contents zero none le = ap (λ (n : ℕ). record contents { compacted = n }) none
after_compaction contents (suc upto) none le = ap (λ (n : ℕ). record contents { compacted = n }) (omega (arith, none, le))

pub contents_are : (journal : List Revision) (compacted : ℕ) → IsJournal journal compacted → contents_of (log_of_journal journal compacted) ≡ contents_of_journal journal compacted
contents_are journal compacted is =
    after_both empty_contents (commits_of_journal journal) (compaction compacted)
    ∙ ap (λ (c : Contents). after_entries c (compaction compacted)) (after_commits empty_contents journal is.revisions)
    ∙ after_compaction (with_history empty_contents (history_of_journal journal)) compacted refl is.within

-- ---- who wrote it
abbrev pub writers_of_journal : List Revision → List ℕ
writers_of_journal journal = map (λ (r : Revision). r.writer) journal

writers_commits : (contents : Contents) (journal : List Revision) → AreNext contents.history journal → writers_after contents (commits_of_journal journal) ≡ writers_of_journal journal
writers_commits contents [] next = refl
writers_commits contents (r ∷ journal) next =
    let made : with_revision contents.history r.changes ≡ contents.history ++ r.changes ∷ [] = with_some contents.history r.changes next.0.form.some in
    ap₂ (λ (ws more : List ℕ). ws ++ more)
    (added_more contents (r.writer, Committed r.changes) (r.changes ∷ []) made)
    (ap (λ (h : History). writers_after (with_history contents h) (commits_of_journal journal)) made ∙ writers_commits (with_history contents (contents.history ++ r.changes ∷ [])) journal next.1)

writers_compaction : (contents : Contents) (upto : ℕ) → writers_after contents (compaction upto) ≡ []
writers_compaction contents zero = refl
writers_compaction contents (suc upto) = ap (λ (ws : List ℕ). ws ++ []) (added_none contents (0, Compacted (suc upto)) refl)

pub writers_are : (journal : List Revision) (compacted : ℕ) → IsJournal journal compacted → writers_of (log_of_journal journal compacted) ≡ writers_of_journal journal
writers_are journal compacted is =
    writers_both empty_contents (commits_of_journal journal) (compaction compacted)
    ∙ ap₂ (λ (ws more : List ℕ). ws ++ more) (writers_commits empty_contents journal is.revisions) (writers_compaction (after_entries empty_contents (commits_of_journal journal)) compacted)
    ∙ append-nil (writers_of_journal journal)

-- ---- its form
formed_on : (history : History) (journal : List Revision) → IsFormed history → AreNext history journal → IsFormed (history ++ history_of_journal journal)
formed_on history [] formed next = subst IsFormed (sym (append-nil history)) formed
formed_on history (r ∷ journal) formed next =
    subst IsFormed (append_assoc history (r.changes ∷ []) (history_of_journal journal))
    (formed_on (history ++ r.changes ∷ []) journal (with_one history formed r.changes next.0.form) next.1)

formed_none : IsFormed []
formed_none = λ r one lt. absurd (omega arith)

pub kept_journal : (journal : List Revision) (compacted : ℕ) (log : StoreLog) (history : List Made) (leases : LeaseTable) (current : Current)
    → IsJournal journal compacted → log ≡ log_of_journal journal compacted → history_in history ≡ history_of_journal journal → writers_in history ≡ writers_of_journal journal
    → leases ≡ no_leases → length history ≤ 2 ^ 63 - 2 → IsCurrentIn (history_in history) current → IsKept log history compacted leases (Some current)
kept_journal journal compacted log history leases current is log_is history_is written leases_are few lives = record {
  contents = ap contents_of log_is ∙ contents_are journal compacted is
      ∙ ap (λ (h : History). record { history = h; compacted = compacted; leases = no_leases }) (sym history_is)
      ∙ ap (λ (t : LeaseTable). record { history = history_in history; compacted = compacted; leases = t }) (sym leases_are);
  writers = written ∙ sym (ap writers_of log_is ∙ writers_are journal compacted is);
  few = few;
  formed = subst IsFormed (sym history_is) (formed_on [] journal formed_none is.revisions);
  current = lives;
}
