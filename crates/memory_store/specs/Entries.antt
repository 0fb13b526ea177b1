-- What was done to a store in memory: a log, of which its contents are a function.
-- Source: etcd, "Data model" (a store is the log of what was done to it).
use Rattle.std.specs.Prelude.{ℕ, [], ◌∷◌, ◌++◌, Bool, if◌then◌else◌}
use Rattle.store_api.specs.History.{with_revision}
use Rattle.store_api.specs.Contents.{Contents, empty_contents, after_grant, after_keep_alive, after_tick, after_compact}
use Rattle.turn_cell.specs.Logs.{Log}
use Rattle.memory_store.specs.declared.entry.StoreEntry.{StoreEntry}
use Rattle.memory_store.specs.declared.entry.StoreEntry.TheVariants.{Committed, Granted, KeptAlive, Ticked, Compacted}

-- what was done, oldest first, each entry with the number of its owner
abbrev pub StoreLog : Type 0
StoreLog = Log StoreEntry

-- the effect of an entry, whoever owns it
abbrev pub after_entry : Contents → StoreEntry → Contents
after_entry contents (Committed changes) = record contents { history = with_revision contents.history changes }
after_entry contents (Granted seconds) = after_grant seconds contents
after_entry contents (KeptAlive lease) = after_keep_alive lease contents
after_entry contents (Ticked seconds) = after_tick seconds contents
after_entry contents (Compacted upto) = after_compact upto contents

abbrev pub after_entries : Contents → StoreLog → Contents
after_entries contents [] = contents
after_entries contents (e ∷ log) = after_entries (after_entry contents e.1) log

-- the contents that the log makes of an empty store
abbrev pub contents_of : StoreLog → Contents
contents_of log = after_entries empty_contents log

-- the log with an entry of this owner more, where what it tells of had an effect
abbrev pub noted_where : Bool → StoreLog → ℕ → StoreEntry → StoreLog
noted_where effect log owner entry = if effect then log ++ (owner, entry) ∷ [] else log
