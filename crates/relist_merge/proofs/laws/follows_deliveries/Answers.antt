use Rattle.relist_merge.proofs.CallerLemmas.{follows_deliveries}
use Rattle.relist_merge.proofs.laws.follows_deliveries.Goals as goal

pub returns : goal.returns
returns c = follows_deliveries
