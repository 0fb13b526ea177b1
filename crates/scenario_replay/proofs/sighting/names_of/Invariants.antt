use Rattle.std.proofs.Common.{◌≡◌, map, take}
use Rattle.mesh_remote.specs.declared.remote.Remote.{Remote}
use Rattle.scenario_replay.proofs.sighting.names_of.Given as goal

abbrev pub invariant-loop-remote : goal.invariant-loop-remote
invariant-loop-remote l = l.names.items ≡ map (λ (r : Remote). r.exporter.cluster) (take l.remote-index l.remotes)
