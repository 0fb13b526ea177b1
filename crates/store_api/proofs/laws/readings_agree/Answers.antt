use Rattle.store_api.proofs.CallerLemmas.{get-map_at}
use Rattle.store_api.proofs.laws.readings_agree.Goals as goal

pub returns : goal.returns
returns c = get-map_at
