use Rattle.std.proofs.Common.{◌≡◌, length}
use Rattle.mesh_text.specs.Escapes.{unescaped_bytes}
use Rattle.mesh_text.proofs.EscapedWords.{behind}
use Rattle.mesh_text.proofs.escapes.unescape_bytes.Given as goal

abbrev pub invariant-loop-rest : goal.invariant-loop-rest
invariant-loop-rest l = behind l.bytes.items (unescaped_bytes l.rest) ≡ unescaped_bytes l.word

abbrev pub decreases-loop-rest : goal.decreases-loop-rest
decreases-loop-rest l = length l.rest
