use Rattle.std.proofs.Common.{◌≡◌}
use Rattle.serde_json.specs.View.{members_view}
use Rattle.record_reading.specs.Service.{ports_of}
use Rattle.record_reading.proofs.Fronts.{with_front}
use Rattle.record_reading.proofs.service.read_ports.Given as goal

-- what was read so far, and what the rest gives, are what all gives
abbrev pub invariant-loop-name : goal.invariant-loop-name
invariant-loop-name l = with_front l.backends.items (ports_of l.ip (members_view l.name-iterator)) ≡ ports_of l.ip (members_view l.ports.entries)
