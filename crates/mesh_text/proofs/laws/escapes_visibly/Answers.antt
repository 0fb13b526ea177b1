use Rattle.mesh_text.proofs.EscapedWords.{escaped-some, escaped-visible}
use Rattle.mesh_text.proofs.laws.escapes_visibly.Goals as goal

pub returns : goal.returns
returns c bytes small = (escaped-some bytes small, escaped-visible bytes small)
