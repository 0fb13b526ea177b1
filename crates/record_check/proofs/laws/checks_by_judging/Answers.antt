use Rattle.record_check.proofs.Checks.{checked_by_judging}
use Rattle.record_check.proofs.laws.checks_by_judging.Goals as goal

pub returns : goal.returns
returns c = checked_by_judging
