use Rattle.record_reading.proofs.LabelGrammar.{reads_label_texts}
use Rattle.record_reading.proofs.laws.reads_label_texts.Goals as goal

pub returns : goal.returns
returns c = reads_label_texts
