use Rattle.std.proofs.Common.{rules, ◌≡◌, Ok}
use Rattle.serde_json.specs.View.{members_view}
use Rattle.record_reading.specs.Service.{ports_of}
use Rattle.record_reading.proofs.Orders.{ports_in_order}
use Rattle.record_reading.proofs.service.read_ports.Goals as goal

pub returns-clause-ordered : goal.returns-clause-ordered
returns-clause-ordered c =
    let read : ports_of c.args.ip (members_view c.args.ports.now.entries) ≡ Ok c.from_vec.result = search rules in
    ports_in_order c.args.ip c.args.ports.now.entries c.from_vec.result c.into_iter-name-iterator.ensures.into_iter_gives.5 read
