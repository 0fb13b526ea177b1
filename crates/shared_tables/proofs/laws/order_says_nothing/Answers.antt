use Rattle.shared_tables.proofs.Orders as orders
use Rattle.shared_tables.proofs.laws.order_says_nothing.Goals as goal

pub returns : goal.returns
returns c = orders.order_says_nothing
