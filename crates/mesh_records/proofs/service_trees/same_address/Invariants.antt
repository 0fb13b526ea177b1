use Rattle.std.proofs.Common.{◌≡◌, ◌+◌, drop}
use Rattle.mesh_records.specs.Trees.{same_address}
use Rattle.mesh_records.proofs.service_trees.same_address.Given as goal

-- those so far are of the address
abbrev pub invariant-loop-place : goal.invariant-loop-place
invariant-loop-place l = same_address l.ip (drop l.place l.backends) + l.place ≡ same_address l.ip l.backends
