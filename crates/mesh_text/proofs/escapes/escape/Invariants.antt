use Rattle.std.proofs.Common.{◌≡◌, ◌++◌, drop, flat_map}
use Rattle.mesh_text.specs.Escapes.{escaped_byte}
use Rattle.mesh_text.proofs.escapes.escape.Given as goal

abbrev pub invariant-loop-byte : goal.invariant-loop-byte
invariant-loop-byte l = l.word.items ++ flat_map escaped_byte (drop l.byte-index l.bytes) ≡ flat_map escaped_byte l.bytes
