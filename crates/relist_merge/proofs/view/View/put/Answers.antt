use Rattle.relist_merge.proofs.Viewing.{kept-put}
use Rattle.relist_merge.proofs.view.View.put.Goals as goal

pub invariant_of-self : goal.invariant_of-self
invariant_of-self c = record { kept = kept-put _ _ _ _ _ _ _ _ c.requires.room c.requires.read c.put.ensures.rows c.args.self.now.kept }
