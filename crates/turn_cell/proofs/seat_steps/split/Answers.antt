use Rattle.std.proofs.Common.{rules, ap, ◌∙◌, length}
use Rattle.turn_cell.proofs.Sharing.{draws_number, splits}
use Rattle.turn_cell.proofs.seat_steps.split.Goals as goal

pub fetch_add-number-requires : goal.fetch_add-number-requires
fetch_add-number-requires g c = let idle = c.requires.idle in (search rules, search rules, draws_number _ _ _ _ _ _ idle.0 c.requires.first idle.2.0 c.requires.room)

pub split_seat-split_off-requires : goal.split_seat-split_off-requires
split_seat-split_off-requires g c =
    let e = c.fetch_add-number.ensures.2.1 in let idle = c.requires.idle in
    (search rules, search rules, splits _ _ _ _ _ (ap (λ m. m.0.stage) e ∙ idle.0) (ap (λ m. m.0.first) e ∙ c.requires.first) (ap (λ m. length m.0.spare) e))
