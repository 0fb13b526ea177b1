use Rattle.std.proofs.Common.{◌≡◌, ◌++◌, map}
use Rattle.exporter.specs.State.{record_item}
use Rattle.exporter.proofs.Queues.{Fresh}
use Rattle.exporter.proofs.declared.Declared.add_keys.Given as goal

-- none of the keys that are left waits, and behind what waits they make the whole
abbrev pub invariant-loop-key : goal.invariant-loop-key
invariant-loop-key l = record {
  fresh : Fresh l.key-iterator l.queue;
  whole : l.queue ++ map record_item l.key-iterator ≡ l.fn.queue ++ map record_item l.initial.key-iterator;
}
