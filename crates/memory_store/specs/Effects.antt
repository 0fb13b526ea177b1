-- Which keep-alives and compactions have an effect. One without effect adds no entry to the log.
use Rattle.std.specs.Prelude.{ℕ, Bool, not, nat_eq, nat_lt}
use Rattle.std.specs.Option.{option_eq}
use Rattle.store_api.specs.Contents.{Contents, after_compact}
use Rattle.store_api.specs.Leases.{LeaseTable, deadline_of, renewed}

-- a keep-alive moves the deadline of the lease
abbrev pub moves : LeaseTable → ℕ → Bool
moves table lease = not (option_eq nat_eq (deadline_of lease table) (deadline_of lease (renewed lease table)))

-- a compaction raises the compacted revision
abbrev pub raises : Contents → ℕ → Bool
raises contents upto = nat_lt contents.compacted (after_compact upto contents).compacted
