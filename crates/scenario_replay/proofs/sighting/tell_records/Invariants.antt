use Rattle.std.proofs.Common.{◌≡◌, length}
use Rattle.std.specs.Vec.Iter.{into_iter_items, into_iter_len}
use Rattle.shared_tables.specs.Told.{told}
use Rattle.scenario_replay.proofs.SourcesTold.{ToldSoFar}
use Rattle.scenario_replay.proofs.sighting.tell_records.Given as goal

abbrev pub invariant-loop-read : goal.invariant-loop-read
invariant-loop-read g l =
    (l.source ≡ l.fn.source)
    × ToldSoFar l.fn.source l.fn.records (into_iter_items l.read-iterator) (told l.fn.tables) (told l.tables)
    × (into_iter_len l.read-iterator ≡ length (into_iter_items l.read-iterator))
