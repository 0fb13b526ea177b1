use Rattle.std.proofs.Common.{◌≡◌, ◌++◌, take, drop, option_map}
use Rattle.record_values.specs.Labels.{split_once}
use Rattle.record_reading.proofs.identity.cut_once.Given as goal

-- the bytes so far stand before what the rest gives
abbrev pub invariant-loop-i : goal.invariant-loop-i
invariant-loop-i l = split_once l.byte l.bytes ≡ option_map (λ p. (take l.i l.bytes ++ p.0, p.1)) (split_once l.byte (drop l.i l.bytes))
