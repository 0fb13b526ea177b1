use Rattle.relist_merge.proofs.CallerLemmas.{follows_later}
use Rattle.relist_merge.proofs.laws.follows_longer.Goals as goal

pub returns : goal.returns
returns c = follows_later
