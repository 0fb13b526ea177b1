use Rattle.relist_merge.proofs.CallerLemmas.{follows_live}
use Rattle.relist_merge.proofs.laws.caught_up_is_live.Goals as goal

pub returns : goal.returns
returns c = follows_live
