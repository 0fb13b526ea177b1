use Rattle.relist_merge.proofs.Viewing.{same_shown}
use Rattle.relist_merge.proofs.view.View.begin_list.Goals as goal

pub returns : goal.returns
returns c = same_shown _ _ _ _ _ _ _ c.age.ensures.room c.age.ensures.entries
