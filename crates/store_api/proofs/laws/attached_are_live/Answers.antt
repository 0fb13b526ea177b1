use Rattle.store_api.proofs.CallerLemmas.{attached_live}
use Rattle.store_api.proofs.laws.attached_are_live.Goals as goal

pub returns : goal.returns
returns c = attached_live
