use Rattle.std.proofs.Common.{◌≡◌, map, drop}
use Rattle.serde_json.specs.View.{view, items_of}
use Rattle.record_reading.specs.Forms.{each}
use Rattle.record_reading.specs.Node.{node_address}
use Rattle.record_reading.proofs.Fronts.{with_front}
use Rattle.record_reading.proofs.node.each_node_address.Given as goal

-- what was read so far, and what the rest gives, are what all gives
abbrev pub invariant-loop-value : goal.invariant-loop-value
invariant-loop-value l = with_front l.addresses.items (each node_address l.field (items_of (map view (drop l.value-index l.values)))) ≡ each node_address l.field (items_of (map view l.values))
