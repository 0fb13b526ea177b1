use Rattle.relist_merge.proofs.CallerLemmas.{follows_caught_up}
use Rattle.relist_merge.proofs.laws.caught_up_where_synced.Goals as goal

pub returns : goal.returns
returns c = follows_caught_up
