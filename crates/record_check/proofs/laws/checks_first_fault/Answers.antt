use Rattle.record_check.proofs.FirstFaults.{checked_fault}
use Rattle.record_check.proofs.laws.checks_first_fault.Goals as goal

pub returns : goal.returns
returns c = checked_fault
