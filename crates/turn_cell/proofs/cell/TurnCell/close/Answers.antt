use Rattle.std.proofs.Common.{ap, sym, ◌∙◌, ◌≡◌, subst, Some}
use Rattle.std.specs.Option.{is_some}
use Rattle.turn_cell.specs.Knowledge.{HasAll}
use Rattle.turn_cell.proofs.Passes.{closed_value}
use Rattle.turn_cell.proofs.cell.TurnCell.close.Goals as goal

pub unwrap-requires : goal.unwrap-requires
unwrap-requires g c =
    let h = closed_value g.T.Kept.log g.T.Kept.fixed _ _ c.pass.inside.seat _ _ _ _ c.pass.invariant c.pass.view_is c.requires.outside c.requires.first c.requires.all c.close_with-closed.ensures.values.2 c.take-value.ensures.value in ap is_some h.1

pub returns-clause-log : goal.returns-clause-log
returns-clause-log g c =
    let h = closed_value g.T.Kept.log g.T.Kept.fixed _ _ c.pass.inside.seat _ _ _ _ c.pass.invariant c.pass.view_is c.requires.outside c.requires.first c.requires.all c.close_with-closed.ensures.values.2 c.take-value.ensures.value in
    let both : Some h.0 ≡ Some c.unwrap.result = sym h.1 ∙ c.unwrap.ensures in let same : c.unwrap.result ≡ h.0 = cc in ap g.T.Kept.log same ∙ h.2

pub returns-clause-fixed : goal.returns-clause-fixed
returns-clause-fixed g c =
    let h = closed_value g.T.Kept.log g.T.Kept.fixed _ _ c.pass.inside.seat _ _ _ _ c.pass.invariant c.pass.view_is c.requires.outside c.requires.first c.requires.all c.close_with-closed.ensures.values.2 c.take-value.ensures.value in
    let both : Some h.0 ≡ Some c.unwrap.result = sym h.1 ∙ c.unwrap.ensures in let same : c.unwrap.result ≡ h.0 = cc in sym (ap (λ z. z.fixed) c.requires.own) ∙ (h.3 ∙ ap (λ z. Some (g.T.Kept.fixed z)) (sym same))

pub returns-clause-all : goal.returns-clause-all
returns-clause-all g c =
    let h = closed_value g.T.Kept.log g.T.Kept.fixed _ _ c.pass.inside.seat _ _ _ _ c.pass.invariant c.pass.view_is c.requires.outside c.requires.first c.requires.all c.close_with-closed.ensures.values.2 c.take-value.ensures.value in
    let both : Some h.0 ≡ Some c.unwrap.result = sym h.1 ∙ c.unwrap.ensures in let same : h.0 ≡ c.unwrap.result = cc in subst (λ z. HasAll c.args.pass (g.T.Kept.log z)) same h.4
