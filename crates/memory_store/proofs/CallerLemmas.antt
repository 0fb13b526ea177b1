-- What the crates above may cite of journals: how a journal is made, one revision after another.
use Rattle.std.proofs.Common.{◌≡◌, ℕ, ◌+◌, ◌≤◌, List, [], ◌∷◌, ◌++◌, length, All, None, ap, sym, subst, append_assoc, arith}
use Rattle.std.proofs.lemmas.List.{append-nil, length-append, length-map, map-append}
use Rattle.std.proofs.lemmas.List.Elements.{All-nil, All-cons}
use Rattle.std.specs.List.{IsDistinct}
use Rattle.mesh_base.specs.Order.{same_bytes}
use Rattle.store_api.specs.History.{History, revision, live_at}
use Rattle.store_api.specs.declared.change.Change.TheVariants as change
use Rattle.store_api.specs.declared.change.Revision.{Revision}
use Rattle.memory_store.specs.Formed.{IsFit, IsRevision}
use Rattle.memory_store.specs.Journal.{AreNext, IsFree, IsJournal, IsNext, history_of_journal}

-- without revisions
pub journal_none : IsJournal [] 0
journal_none = record { revisions = tt; within = omega arith }

-- with a revision more, of any form
more_next : (history : History) (journal : List Revision) (next : Revision) → AreNext history journal → IsNext (history ++ history_of_journal journal) next → AreNext history (journal ++ next ∷ [])
more_next history [] next before is = (subst (λ (h : History). IsNext h next) (append-nil history) is, tt)
more_next history (r ∷ journal) next before is =
    (before.0, more_next (history ++ r.changes ∷ []) journal next before.1 (subst (λ (h : History). IsNext h next) (sym (append_assoc history (r.changes ∷ []) (history_of_journal journal))) is))

pub journal_more : (journal : List Revision) (compacted : ℕ) (next : Revision) → IsJournal journal compacted → IsNext (history_of_journal journal) next → IsJournal (journal ++ next ∷ []) compacted
journal_more journal compacted next before is = record {
  revisions = more_next [] journal next before.revisions is;
  within = omega (arith, before.within, ap length (map-append (λ (r : Revision). r.changes) journal (next ∷ [])), length-append (history_of_journal journal) (next.changes ∷ []));
}

-- one key is distinct
one_distinct : (key : List ℕ) → IsDistinct same_bytes (key ∷ [])
unfolding IsDistinct
one_distinct key = (tt, tt)

-- a put alone is a revision over anything
put_next : (history : History) (next : Revision) (key value : List ℕ) → next.number ≡ revision history + 1 → next.changes ≡ change.Put key value None ∷ [] → IsNext history next
put_next history next key value number changes = record {
  number = number;
  form = subst (IsRevision (live_at history (revision history))) (sym changes) (record {
    some = omega arith;
    distinct = one_distinct key;
    fit = All-cons (IsFit (live_at history (revision history))) (change.Put key value None) [] tt (All-nil (IsFit (live_at history (revision history))));
  });
  free = subst (All IsFree) (sym changes) (All-cons IsFree (change.Put key value None) [] tt (All-nil IsFree));
}

-- with one more revision that puts a key
pub journal_put : (journal : List Revision) (compacted : ℕ) (next : Revision) (key value : List ℕ) → IsJournal journal compacted → next.number ≡ length journal + 2 → next.changes ≡ change.Put key value None ∷ []
    → IsJournal (journal ++ next ∷ []) compacted
journal_put journal compacted next key value before number changes =
    journal_more journal compacted next before (put_next (history_of_journal journal) next key value (omega (arith, number, length-map journal (λ (r : Revision). r.changes))) changes)

-- compacted up to one of its revisions
pub journal_compacted : (journal : List Revision) (compacted upto : ℕ) → IsJournal journal compacted → upto ≤ length journal + 1 → IsJournal journal upto
journal_compacted journal compacted upto before le = record {
  revisions = before.revisions;
  within = omega (arith, le, length-map journal (λ (r : Revision). r.changes));
}
