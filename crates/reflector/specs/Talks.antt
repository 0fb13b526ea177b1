-- A turn of a reader as a talk with its store: one call, and what the reader's record is by what was
-- heard of it.
-- Source: etcd's API, KV service (Range tells the revision that it lists) and Watch service (a watch
-- from compacted history is refused); the form is this project's own.
use Rattle.std.specs.Prelude.{ℕ, ◌+◌, if◌then◌else◌}
use Rattle.store_api.specs.Advance.{closed, turned}
use Rattle.store_api.specs.Calls.{Request, Heard, Answered, Refused, Missed, Talk, Ends, Asks, to_list, to_pull}
use Rattle.store_api.specs.History.{revision}
use Rattle.store_api.specs.Spans.{Record, cursor_of}

-- what a reader with this record asks: a pull from behind its cursor, or a list where it is closed
abbrev pub asked_by : Record → Request
asked_by r = if r.is_open then to_pull (cursor_of r.spans + 1) else to_list

-- the record after what was heard
abbrev pub turned_by : ℕ → Record → Heard → Record
turned_by most r (Answered c) = turned most (revision c.history) c.compacted r
turned_by most r (Refused c) = turned most (revision c.history) c.compacted r
turned_by most r Missed = closed r

-- one turn of at most so many revisions
abbrev pub turn_talk : ℕ → Record → Talk (Unit {0}) Record
turn_talk most r = Asks tt (asked_by r) (λ heard. Ends (turned_by most r heard))
