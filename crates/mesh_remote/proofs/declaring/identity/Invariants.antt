use Rattle.std.proofs.Common.{◌≡◌, take}
use Rattle.mesh_remote.proofs.declaring.identity.Given as goal

abbrev pub invariant-loop-label : goal.invariant-loop-label
invariant-loop-label l = l.copy ≡ take l.label-index l.labels.labels
