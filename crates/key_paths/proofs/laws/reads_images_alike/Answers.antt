use Rattle.key_paths.proofs.ReadAlike.{moved-alike}
use Rattle.key_paths.proofs.laws.reads_images_alike.Goals as goal

pub returns : goal.returns
returns c = moved-alike
