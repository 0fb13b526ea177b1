use Rattle.turn_cell.specs.Seats.{IsSameSeat, IsWaiting}
use Rattle.turn_cell.proofs.seat_steps.enter.Given as goal

abbrev pub invariant-loop : goal.invariant-loop
invariant-loop g l = record {
  same : IsSameSeat l.fn.seat l.seat;
  waits : IsWaiting l.fn.seat.me l.seat.me l.ticket;
}
