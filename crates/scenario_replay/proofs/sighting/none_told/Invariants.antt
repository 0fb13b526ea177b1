use Rattle.std.proofs.Common.{◌≡◌, map, take, false}
use Rattle.mesh_remote.specs.declared.remote.Remote.{Remote}
use Rattle.scenario_replay.proofs.sighting.none_told.Given as goal

abbrev pub invariant-loop-remote : goal.invariant-loop-remote
invariant-loop-remote l = l.told.items ≡ map (λ (r : Remote). false) (take l._remote-index l.remotes)
