use Rattle.std.proofs.Common.{rules, ◌≡◌, [], ◌∷◌, List, subst, Some, Option}
use Rattle.atomic_table.specs.Table.{opening}
use Rattle.turn_cell.specs.Rule.{TurnRule, first_view}
use Rattle.turn_cell.proofs.Sharing.{opens}
use Rattle.turn_cell.proofs.cell.TurnCell.new.Goals as goal

pub new-requires : goal.new-requires
new-requires g c =
    let x = c.of-key.result.value in
    let P : List (Option g.row.T.Denot) → Type 0 = λ xs. TurnRule g.T.Kept.log g.T.Kept.fixed x (opening (0 ∷ 0 ∷ 2 ∷ []) xs (first_view g.T.Kept.log g.T.Kept.fixed x)) in
    let is : Some x ∷ [] ≡ c.in_ok-slots.slots.items = search rules in
    subst P is (opens g.T.Kept.log g.T.Kept.fixed x)
