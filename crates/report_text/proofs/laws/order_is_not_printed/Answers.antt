use Rattle.report_text.proofs.Unordered as unordered
use Rattle.report_text.proofs.laws.order_is_not_printed.Goals as goal

pub returns : goal.returns
returns c = unordered.order_is_not_printed
