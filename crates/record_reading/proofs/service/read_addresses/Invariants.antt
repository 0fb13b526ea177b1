use Rattle.std.proofs.Common.{◌≡◌, []}
use Rattle.std.specs.List.{AllByRecursion}
use Rattle.serde_json.specs.View.{members_view}
use Rattle.record_reading.specs.Service.{addresses_of}
use Rattle.record_reading.proofs.Orders.{IsGroup}
use Rattle.record_reading.proofs.service.read_addresses.Given as goal

-- the rest, behind the addresses so far, gives what all gives
abbrev pub invariant-loop-name : goal.invariant-loop-name
invariant-loop-name l = record {
  gives : addresses_of l.addresses.entries (members_view l.name-iterator) ≡ addresses_of [] (members_view l.members.entries);
  ordered : AllByRecursion IsGroup l.addresses.entries;
}
