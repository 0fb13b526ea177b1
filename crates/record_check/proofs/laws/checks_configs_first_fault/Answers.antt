use Rattle.record_check.proofs.FirstFaults.{config_fault_is}
use Rattle.record_check.proofs.laws.checks_configs_first_fault.Goals as goal

pub returns : goal.returns
returns c = config_fault_is
