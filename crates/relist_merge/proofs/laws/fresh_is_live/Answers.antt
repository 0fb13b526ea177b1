use Rattle.relist_merge.proofs.CallerLemmas.{listing_is_fresh, revision_is_fresh}
use Rattle.relist_merge.proofs.laws.fresh_is_live.Goals as goal

pub returns-clause-listing : goal.returns-clause-listing
returns-clause-listing c = listing_is_fresh

pub returns-clause-revision : goal.returns-clause-revision
returns-clause-revision c = revision_is_fresh
