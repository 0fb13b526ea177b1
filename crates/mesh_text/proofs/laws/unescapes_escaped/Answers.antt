use Rattle.mesh_text.proofs.EscapedWords.{unescaped-escaped}
use Rattle.mesh_text.proofs.laws.unescapes_escaped.Goals as goal

pub returns : goal.returns
returns c = unescaped-escaped
