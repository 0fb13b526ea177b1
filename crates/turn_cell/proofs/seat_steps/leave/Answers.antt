use Rattle.std.proofs.Common.{rules}
use Rattle.turn_cell.proofs.TurnSteps.{serves_from}
use Rattle.turn_cell.proofs.seat_steps.leave.Goals as goal

pub fetch_add-requires : goal.fetch_add-requires
fetch_add-requires g c =
    let turn = c.requires.turn in
    (search rules, search rules, serves_from _ _ _ _ _ c.args.seat.now.me _ _ _ c.requires.inside.0 c.requires.inside.1 c.put_home.ensures.home.1 turn.0.1 turn.0.2 turn.1)
