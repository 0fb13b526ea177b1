use Rattle.std.proofs.Common.{rules, ap, ◌∙◌}
use Rattle.turn_cell.proofs.Sharing.{merges, hears_told}
use Rattle.turn_cell.proofs.seat_steps.join.Goals as goal

pub join_seat-requires : goal.join_seat-requires
join_seat-requires g c = let idle = c.requires.idle in (search rules, search rules, search rules, search rules, merges _ _ _ _ _ _ _ idle.0.0 idle.1.0 c.requires.later idle.1.2.0)

pub load-requires : goal.load-requires
load-requires g c = (search rules, search rules, hears_told _ _ _ _ _ _ (ap (λ m. m.0.stage) c.join_seat.ensures.2 ∙ c.requires.idle.0.0))
