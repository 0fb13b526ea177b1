use Rattle.std.proofs.Common.{rules, List, sym, subst}
use Rattle.std.specs.List.{AllByRecursion}
use Rattle.record_reading.proofs.Orders.{Group, IsGroup, groups_put}
use Rattle.record_reading.proofs.service.read_addresses.Goals as goal

pub loop-name-preserved : goal.loop-name-preserved
loop-name-preserved c = record {
  gives = search rules;
  ordered = subst (λ (es : List Group). AllByRecursion IsGroup es) (sym c.in_ok-put_address.ensures) (groups_put c.loop-name.addresses.entries c.in-Some-read_ip.ip c.in_ok-read_ports.field-0 c.loop-name.invariant.ordered c.in_ok-read_ports.ensures.ordered);
}
