-- What a store in memory holds, and what it means.
-- Source: etcd, "Data model" (a store is the log of what was done to it).
use Rattle.std.specs.Prelude.{ℕ, List, [], ◌∷◌, ◌++◌, true, None}
use Rattle.store_api.specs.History.{History, revision, live_at, changes_of}
use Rattle.store_api.specs.Leases.{LeaseTable}
use Rattle.store_api.specs.Meaning.{Meaning}
use Rattle.store_api.specs.declared.change.Change.{Change}
use Rattle.store_api.specs.declared.change.Op.{Op}
use Rattle.memory_store.specs.declared.entry.StoreEntry.TheVariants.{Committed, KeptAlive, Compacted}
use Rattle.memory_store.specs.Effects.{moves, raises}
use Rattle.memory_store.specs.Entries.{StoreLog, contents_of, noted_where}

-- its log, and how often it was called
pub record Stored : Type 0 where
  pub log : StoreLog
  pub calls : ℕ

abbrev pub history_of : StoreLog → History
history_of log = let contents = contents_of log in contents.history

abbrev pub leases_of : StoreLog → LeaseTable
leases_of log = let contents = contents_of log in contents.leases

-- no call fails, no call is told, nobody else writes, leases are numbered in turn, and every key may be
-- written
abbrev pub meaning_of : Stored → Meaning
meaning_of s = record {
  contents = contents_of s.log;
  faults = 0;
  calls = s.calls;
  told = None;
  quiet = true;
  numbers = true;
  writable = λ _. true;
}

-- the log with the changes as one entry more, where there are any
abbrev pub with_entry : StoreLog → ℕ → List Change → StoreLog
with_entry log writer [] = log
with_entry log writer (c ∷ changes) = log ++ (writer, Committed (c ∷ changes)) ∷ []

-- the log after a transaction of the operations by the writer
abbrev pub logged : StoreLog → ℕ → List Op → StoreLog
logged log writer ops = with_entry log writer (changes_of (live_at (history_of log) (revision (history_of log))) ops)

-- the log after a keep-alive by the writer, with an entry more where the deadline moves
abbrev pub with_keep_alive : StoreLog → ℕ → ℕ → StoreLog
with_keep_alive log writer lease = noted_where (moves (leases_of log) lease) log writer (KeptAlive lease)

-- the log after a compaction by the writer, with an entry more where the compacted revision rises
abbrev pub with_compaction : StoreLog → ℕ → ℕ → StoreLog
with_compaction log writer upto = noted_where (raises (contents_of log) upto) log writer (Compacted upto)
