use Rattle.record_check.proofs.RecordKeys.{keys_in_ranges}
use Rattle.record_check.proofs.laws.reads_keys_in_ranges.Goals as goal

pub returns : goal.returns
returns c = keys_in_ranges
