-- Who wrote a revision: the owner of the entry that added it to the history.
use Rattle.std.specs.Prelude.{◌≡◌, ℕ, zero, suc, ◌-◌, List, [], ◌∷◌, ◌++◌, length, replicate, get_or, All}
use Rattle.store_api.specs.Contents.{Contents, empty_contents}
use Rattle.store_api.specs.declared.change.Revision.{Revision}
use Rattle.memory_store.specs.declared.entry.StoreEntry.{StoreEntry}
use Rattle.memory_store.specs.Entries.{StoreLog, after_entry}

-- the owner of the entry, once for each revision that the entry adds to what was there before
abbrev pub added_by : Contents → ℕ × StoreEntry → List ℕ
added_by before e = replicate (length (after_entry before e.1).history - length before.history) e.0

abbrev pub writers_after : Contents → StoreLog → List ℕ
writers_after contents [] = []
writers_after contents (e ∷ log) = added_by contents e ++ writers_after (after_entry contents e.1) log

-- the writers of the log's revisions, oldest first
abbrev pub writers_of : StoreLog → List ℕ
writers_of log = writers_after empty_contents log

-- the writer of the revision of this number; the first revision is 2
abbrev pub numbered_writer : List ℕ → ℕ → ℕ
numbered_writer writers zero = 0
numbered_writer writers (suc zero) = 0
numbered_writer writers (suc (suc i)) = get_or writers i 0

-- the writer of the log's revision of this number
abbrev pub writer_at : StoreLog → ℕ → ℕ
writer_at log number = numbered_writer (writers_of log) number

-- each of the revisions names the writer that it has among these
abbrev pub AreWrittenBy : List ℕ → List Revision → Type 0
AreWrittenBy writers revisions = All (λ (r : Revision). r.writer ≡ numbered_writer writers r.number) revisions

-- each of the revisions names who wrote it in the log
abbrev pub NameWriters : StoreLog → List Revision → Type 0
NameWriters log revisions = All (λ (r : Revision). r.writer ≡ writer_at log r.number) revisions
