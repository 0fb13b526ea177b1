use Rattle.relist_merge.proofs.Viewing.{kept-fewer, not-gone}
use Rattle.std.proofs.Common.{sym, ◌∙◌}
use Rattle.relist_merge.proofs.view.View.forget.Goals as goal

pub invariant_of-self : goal.invariant_of-self
invariant_of-self c = record { kept = kept-fewer _ _ _ _ _ _ c.forget.ensures.room c.forget.ensures.fewer (λ k row e. not-gone _ _ row (sym (c.forget.ensures.rows k) ∙ e)) c.args.self.now.kept }
