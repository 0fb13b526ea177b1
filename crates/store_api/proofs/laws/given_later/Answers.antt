use Rattle.store_api.proofs.CallerLemmas.{given_in_later}
use Rattle.store_api.proofs.laws.given_later.Goals as goal

pub returns : goal.returns
returns c = given_in_later
