use Rattle.std.proofs.Common.{◌≡◌, ◌++◌, drop, map}
use Rattle.key_paths.specs.Paths.{record_range}
use Rattle.key_paths.proofs.paths.push_record_ranges.Given as goal

abbrev pub invariant-loop-kind : goal.invariant-loop-kind
invariant-loop-kind l =
    l.ranges ++ map (record_range l.hop l.cluster) (drop l.kind-index l.kinds) ≡ l.fn.ranges ++ map (record_range l.hop l.cluster) l.kinds
