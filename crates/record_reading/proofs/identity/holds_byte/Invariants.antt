use Rattle.std.proofs.Common.{◌≡◌, drop}
use Rattle.record_values.specs.Labels.{has_byte}
use Rattle.record_reading.proofs.identity.holds_byte.Given as goal

-- the rest decides
abbrev pub invariant-loop-b : goal.invariant-loop-b
invariant-loop-b l = has_byte l.byte (drop l.b-index l.bytes) ≡ has_byte l.byte l.bytes
