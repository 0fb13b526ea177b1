use Rattle.key_paths.proofs.Ownership.{owned_by_one}
use Rattle.key_paths.proofs.laws.owned_by_one_cluster.Goals as goal

pub returns : goal.returns
returns c = owned_by_one
