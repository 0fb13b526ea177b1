use Rattle.key_paths.proofs.Moves.{moved-sound, moved-complete}
use Rattle.key_paths.proofs.laws.exchanges_fronts.Goals as goal

pub returns : goal.returns
returns c from to cluster bytes image =
    (moved-sound from to cluster bytes image, moved-complete from to cluster bytes image)
