use Rattle.std.proofs.Common.{◌∙◌, append_assoc, sym}
use Rattle.report_text.proofs.LabelWords.{labels_parts}
use Rattle.report_text.proofs.words.push_labels.Goals as goal

pub loop-label-init : goal.loop-label-init
loop-label-init c =
    rw (c.in_ok-push.ensures.ok, labels_parts c.args.labels.now (sym c.is_empty.ensures ∙ c.if-is_empty.false), append_assoc)
