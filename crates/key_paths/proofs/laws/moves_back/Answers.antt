use Rattle.key_paths.proofs.Moves.{moved-back}
use Rattle.key_paths.proofs.laws.moves_back.Goals as goal

pub returns : goal.returns
returns c = moved-back
