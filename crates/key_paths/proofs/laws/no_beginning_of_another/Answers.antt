use Rattle.key_paths.proofs.FrontLemmas.{one_beginning, begins_with_itself}
use Rattle.key_paths.specs.Beginnings.{beginning}
use Rattle.key_paths.proofs.laws.no_beginning_of_another.Goals as goal

pub returns-clause-apart : goal.returns-clause-apart
returns-clause-apart c a b h = one_beginning (beginning a) a b (begins_with_itself a) h

pub returns-clause-one : goal.returns-clause-one
returns-clause-one c = one_beginning
