use Rattle.record_check.proofs.Reserved.{reserved_fit}
use Rattle.record_check.proofs.laws.reserved_fit_every_cluster.Goals as goal

pub returns : goal.returns
returns c = reserved_fit
