use Rattle.memory_store.proofs.Forms.{lapses_keep}
use Rattle.memory_store.proofs.laws.lapses_keep_form.Goals as goal

pub returns : goal.returns
returns c = lapses_keep
