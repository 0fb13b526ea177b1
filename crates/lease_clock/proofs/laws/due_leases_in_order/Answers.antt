use Rattle.lease_clock.proofs.Ranks.{in_order_all}
use Rattle.lease_clock.proofs.laws.due_leases_in_order.Goals as goal

pub returns : goal.returns
returns c = in_order_all
