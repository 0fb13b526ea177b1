use Rattle.key_paths.proofs.Sound.{key_of-sound}
use Rattle.key_paths.proofs.Complete.{key_of-complete}
use Rattle.key_paths.proofs.laws.reads_keys_alone.Goals as goal

pub returns : goal.returns
returns c bytes key = (key_of-sound bytes key, key_of-complete bytes key)
