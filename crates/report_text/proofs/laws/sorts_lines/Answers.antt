use Rattle.report_text.proofs.Unordered as unordered
use Rattle.report_text.proofs.laws.sorts_lines.Goals as goal

pub returns : goal.returns
returns c = unordered.sorts_lines
