use Rattle.key_paths.proofs.Moves.{is_some-moved, moved-in_record_ranges}
use Rattle.key_paths.proofs.laws.maps_record_ranges.Goals as goal

pub returns-clause-from : goal.returns-clause-from
returns-clause-from c = is_some-moved

pub returns-clause-into : goal.returns-clause-into
returns-clause-into c = moved-in_record_ranges
