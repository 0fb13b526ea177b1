-- What a turn says of whatever lies between the reader and its store.
-- The form is this project's own.
use Rattle.std.specs.Prelude.{◌+◌, if◌then◌else◌}
use Rattle.store_api.specs.Calls.{Request, Ending, Answers, Refuses, IsLost, to_list, to_pull}
use Rattle.reflector.specs.Reader.{Reader}
use Rattle.reflector.specs.declared.turns.Turn.{Turn}
use Rattle.reflector.specs.declared.turns.Turn.TheVariants as turn

-- the one call that a turn makes
abbrev pub asked : Reader → Request
asked reader = if reader.is_waiting then to_list else to_pull (reader.cursor + 1)

-- how that call ended
abbrev pub end_of : Turn → Ending
end_of (turn.Listed listing) = Answers
end_of (turn.Pulled batch) = Answers
end_of (turn.Compacted compacted) = Refuses
end_of turn.Lost = IsLost
end_of turn.NothingNew = Answers
