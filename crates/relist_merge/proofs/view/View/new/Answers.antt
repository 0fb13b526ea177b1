use Rattle.relist_merge.proofs.Viewing.{kept-new}
use Rattle.relist_merge.proofs.view.View.new.Goals as goal

pub invariant_of-result : goal.invariant_of-result
invariant_of-result c = record { kept = kept-new _ _ _ c.new.ensures.room c.new.ensures.empty }
