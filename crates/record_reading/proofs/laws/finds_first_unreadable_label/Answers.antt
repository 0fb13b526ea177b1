use Rattle.record_reading.proofs.LabelGrammar.{finds_first_unreadable, refuses_by_place}
use Rattle.record_reading.proofs.laws.finds_first_unreadable_label.Goals as goal

pub returns-clause-place : goal.returns-clause-place
returns-clause-place c = finds_first_unreadable

pub returns-clause-alone : goal.returns-clause-alone
returns-clause-alone c = refuses_by_place
