use Rattle.memory_store.proofs.Forms.{commits_keep}
use Rattle.memory_store.proofs.laws.commits_keep_form.Goals as goal

pub returns : goal.returns
returns c = commits_keep
