use Rattle.std.proofs.Common.{◌≡◌, drop}
use Rattle.key_paths.specs.Mapping.{moved_among}
use Rattle.key_paths.proofs.mapping.moved_among.Given as goal

abbrev pub invariant-loop-kind : goal.invariant-loop-kind
invariant-loop-kind l =
    moved_among (drop l.kind-index l.kinds) l.from l.to l.cluster l.key ≡ moved_among l.kinds l.from l.to l.cluster l.key
