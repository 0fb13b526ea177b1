-- A journal: the revisions of a store that knew no leases, and what a store holds that is made of it.
-- Source: etcd, "Data model" (a store is the log of what was done to it).
use Rattle.std.specs.Prelude.{◌≡◌, ℕ, zero, suc, ◌+◌, ◌≤◌, List, [], ◌∷◌, ◌++◌, map, All, None, Some}
use Rattle.store_api.specs.Contents.{Contents}
use Rattle.store_api.specs.History.{History, revision, live_at}
use Rattle.store_api.specs.Leases.{no_leases}
use Rattle.store_api.specs.declared.change.Change.{Change}
use Rattle.store_api.specs.declared.change.Change.TheVariants as change
use Rattle.store_api.specs.declared.change.Revision.{Revision}
use Rattle.memory_store.specs.declared.entry.StoreEntry.TheVariants.{Committed, Compacted}
use Rattle.memory_store.specs.Entries.{StoreLog}
use Rattle.memory_store.specs.Formed.{IsRevision}

-- the change attaches its key to no lease
abbrev pub IsFree : Change → Type 0
IsFree (change.Put key value None) = Unit {0}
IsFree (change.Put key value (Some lease)) = ⊥
IsFree (change.Delete key) = Unit {0}

-- the revision has the number after the history's; it changes something over what is live there, no
-- key twice, deletes live keys alone, and names no lease
pub record IsNext (history : History) (next : Revision) : Type 0 where
  pub number : next.number ≡ revision history + 1
  pub form : IsRevision (live_at history (revision history)) next.changes
  pub free : All IsFree next.changes

-- the revisions go on, one after another, where the history ends
abbrev pub AreNext : History → List Revision → Type 0
AreNext history [] = Unit {0}
AreNext history (next ∷ journal) = IsNext history next × AreNext (history ++ next.changes ∷ []) journal

-- what the revisions changed
abbrev pub history_of_journal : List Revision → History
history_of_journal journal = map (λ (r : Revision). r.changes) journal

-- the revisions are the first of a store, and it is compacted at most up to its revision
pub record IsJournal (journal : List Revision) (compacted : ℕ) : Type 0 where
  pub revisions : AreNext [] journal
  pub within : compacted ≤ revision (history_of_journal journal)

-- a commit for each revision, by its writer
abbrev pub commits_of_journal : List Revision → StoreLog
commits_of_journal journal = map (λ (r : Revision). (r.writer, Committed r.changes)) journal

-- a compaction by owner 0, where one was made
abbrev pub compaction : ℕ → StoreLog
compaction zero = []
compaction (suc upto) = (0, Compacted (suc upto)) ∷ []

-- the log that begins with the journal
abbrev pub log_of_journal : List Revision → ℕ → StoreLog
log_of_journal journal compacted = commits_of_journal journal ++ compaction compacted

-- what a store holds that is made of the journal: no lease was granted, and its clock is at 0
abbrev pub contents_of_journal : List Revision → ℕ → Contents
contents_of_journal journal compacted = record { history = history_of_journal journal; compacted = compacted; leases = no_leases }
