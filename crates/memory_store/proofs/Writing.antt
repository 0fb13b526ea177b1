-- Who wrote the revisions of a log that grows.
use Rattle.std.proofs.Common.{◌≡◌, ℕ, suc, ◌<◌, List, [], ◌∷◌, ◌++◌, length, get_or, replicate, Bool, true, false, refl, ap, sym, ◌∙◌, append_assoc, arith}
use Rattle.std.proofs.lemmas.List.{append-nil, get_or-map, length-append, map-append, replicate_more}
use Rattle.store_api.specs.Contents.{Contents, empty_contents}
use Rattle.store_api.specs.History.{History}
use Rattle.memory_store.specs.declared.entry.StoreEntry.{StoreEntry}
use Rattle.memory_store.specs.declared.live.Made.{Made}
use Rattle.memory_store.specs.Entries.{StoreLog, after_entries, after_entry, contents_of, noted_where}
use Rattle.memory_store.specs.Kept.{writers_in}
use Rattle.memory_store.specs.Writers.{added_by, numbered_writer, writers_after, writers_of}

-- ---- one log behind another
pub writers_both : (contents : Contents) (first then : StoreLog) → writers_after contents (first ++ then) ≡ writers_after contents first ++ writers_after (after_entries contents first) then
writers_both contents [] then = refl
writers_both contents (e ∷ first) then =
    ap (λ (ws : List ℕ). added_by contents e ++ ws) (writers_both (after_entry contents e.1) first then)
    ∙ sym (append_assoc (added_by contents e) (writers_after (after_entry contents e.1) first) (writers_after (after_entries (after_entry contents e.1) first) then))

pub writers_more : (log : StoreLog) (e : ℕ × StoreEntry) → writers_of (log ++ e ∷ []) ≡ writers_of log ++ added_by (contents_of log) e
writers_more log e = writers_both empty_contents log (e ∷ []) ∙ ap (λ (ws : List ℕ). writers_of log ++ ws) (append-nil (added_by (contents_of log) e))

-- ---- what one entry adds
pub added_more : (before : Contents) (e : ℕ × StoreEntry) (more : History) → (after_entry before e.1).history ≡ before.history ++ more → added_by before e ≡ replicate (length more) e.0
added_more before e more is = let size = ap length is in ap (λ (n : ℕ). replicate n e.0) (omega (arith, size, length-append before.history more))

pub added_none : (before : Contents) (e : ℕ × StoreEntry) → (after_entry before e.1).history ≡ before.history → added_by before e ≡ []
added_none before e is = added_more before e [] (is ∙ sym (append-nil before.history))

-- an entry that leaves the history as it is, noted or not, has no writer
pub writers_where : (effect : Bool) (log : StoreLog) (owner : ℕ) (entry : StoreEntry) → (after_entry (contents_of log) entry).history ≡ (contents_of log).history → writers_of (noted_where effect log owner entry) ≡ writers_of log
writers_where true log owner entry is = writers_more log (owner, entry) ∙ ap (λ (ws : List ℕ). writers_of log ++ ws) (added_none (contents_of log) (owner, entry) is) ∙ append-nil (writers_of log)
writers_where false log owner entry is = refl

-- ---- the writers of the kept revisions
pub writers_joined : (history more : List Made) → writers_in (history ++ more) ≡ writers_in history ++ writers_in more
writers_joined history more = map-append (λ (m : Made). m.writer) history more

-- all by one writer, and one more by it
pub writers_pushed : (history : List Made) (made : Made) → writers_in history ≡ replicate (length history) made.writer → writers_in (history ++ made ∷ []) ≡ replicate (length (history ++ made ∷ [])) made.writer
writers_pushed history made are =
    writers_joined history (made ∷ []) ∙ ap (λ (ws : List ℕ). ws ++ made.writer ∷ []) are ∙ replicate_more (length history) made.writer
    ∙ ap (λ (n : ℕ). replicate n made.writer) (sym (length-append history (made ∷ [])))

-- who wrote the revision at a place
pub writer_here : (history : List Made) (i n : ℕ) (made : Made) → i < length history → made ≡ get_or history i made → n ≡ suc (suc i) → made.writer ≡ numbered_writer (writers_in history) n
writer_here history i n made lt is step =
    ap (λ (m : Made). m.writer) is ∙ sym (get_or-map (λ (m : Made). m.writer) history i made 0 lt) ∙ ap (numbered_writer (writers_in history)) (sym step)
