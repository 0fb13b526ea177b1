use Rattle.std.proofs.Common.{◌≤◌, ◌-◌, length, take}
use Rattle.store_api.specs.Streams.{HoldsMore}
use Rattle.scenario_replay.proofs.streams.write_all.Given as goal

abbrev pub invariant-loop-done : goal.invariant-loop-done
invariant-loop-done g l = record {
  within : l.done ≤ length l.bytes;
  held : HoldsMore (g.W.Sink.holds l.fn.sink) (g.W.Sink.holds l.sink) (take l.done l.bytes);
  count : g.W.Sink.faults l.fn.sink ≤ g.W.Sink.faults l.sink;
}

abbrev pub decreases-loop-done : goal.decreases-loop-done
decreases-loop-done g l = length l.bytes - l.done
