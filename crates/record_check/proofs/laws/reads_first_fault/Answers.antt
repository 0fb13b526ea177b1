use Rattle.record_check.proofs.FirstFaults.{reading_fault}
use Rattle.record_check.proofs.laws.reads_first_fault.Goals as goal

pub returns : goal.returns
returns c = reading_fault
