use Rattle.key_paths.proofs.Ownership.{kind_of-range}
use Rattle.key_paths.proofs.laws.has_kind_of_range.Goals as goal

pub returns : goal.returns
returns c = kind_of-range
