use Rattle.exporter.proofs.Marks.{marks_come_last}
use Rattle.exporter.proofs.laws.marks_come_last.Goals as goal

pub returns : goal.returns
returns c = marks_come_last
