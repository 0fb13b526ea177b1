use Rattle.std.proofs.Common.{rules, ◌≡◌, sym, subst}
use Rattle.std.specs.List.{flat_map}
use Rattle.std.specs.Map.{keys_of}
use Rattle.record_values.specs.Backends.{AreInOrder}
use Rattle.record_reading.proofs.Orders.{Group, all_in_order, sorted_ips}
use Rattle.record_reading.proofs.service.all_ports.Goals as goal

pub returns-clause-ordered : goal.returns-clause-ordered
returns-clause-ordered c =
    let all : c.from_vec.result ≡ flat_map (λ (a : Group). a.1) c.args.addresses.entries = search rules in
    subst AreInOrder (sym all) (all_in_order c.args.addresses.entries (sorted_ips (keys_of c.args.addresses.entries) c.into_iter-ports-iterator.ensures.into_iter_gives.5) c.requires)
