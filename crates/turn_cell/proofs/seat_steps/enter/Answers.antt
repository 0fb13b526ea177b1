use Rattle.std.proofs.Common.{rules, sym, ap, ◌∙◌, ◌∷◌, Some}
use Rattle.atomic_table.specs.Table.{rest}
use Rattle.turn_cell.proofs.TurnSteps.{draws, looks, came_in}
use Rattle.turn_cell.proofs.seat_steps.enter.Goals as goal

pub fetch_add-ticket-requires : goal.fetch_add-ticket-requires
fetch_add-ticket-requires g c = (search rules, search rules, draws _ _ _ _ _ _ c.requires.idle.0 c.requires.numbered)

pub load-served-requires : goal.load-served-requires
load-served-requires g c = let w = c.loop.invariant.waits in (search rules, search rules, looks _ _ _ _ _ _ w.0 (ap (λ m. m.0.stage) w.2))

pub take_out-requires-clause-full : goal.take_out-requires-clause-full
take_out-requires-clause-full g c =
    let w = c.loop.invariant.waits in let h = (c.load-served.ensures.2 w.0 (ap (λ m. m.0.stage) w.2)).0 (c.if-served-ticket.true ∙ w.1) in
    let e = ap (λ m. m.1) h.1 in (h.0, e ∙ (λ i. (0, Some h.0) ∷ sym (ap rest e) i))

pub returns-then-served-ticket-clause-came_in : goal.returns-then-served-ticket-clause-came_in
returns-then-served-ticket-clause-came_in g c =
    let w = c.loop.invariant.waits in let h = (c.load-served.ensures.2 w.0 (ap (λ m. m.0.stage) w.2)).0 (c.if-served-ticket.true ∙ w.1) in
    came_in g.T.Kept.log g.T.Kept.fixed c.args.shared.now.key.value c.args.seat.now.me _ _ _ _ _ c.requires.idle.1 w.2 h c.take_out.ensures.out
