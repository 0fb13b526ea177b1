use Rattle.std.proofs.Common.{take}
use Rattle.scenario_replay.specs.Shown.{AreNew}
use Rattle.scenario_replay.proofs.replay.new_remotes.Given as goal

abbrev pub invariant-loop-remote : goal.invariant-loop-remote
invariant-loop-remote l = AreNew l.seconds (take l.remote-index l.scenario.remotes) l.remotes.items
