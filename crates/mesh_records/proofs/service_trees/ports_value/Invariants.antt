use Rattle.std.proofs.Common.{◌≡◌, map, drop}
use Rattle.std.specs.List.{AllByRecursion}
use Rattle.serde_json.specs.Data.{no_members}
use Rattle.serde_json.specs.View.{members_view}
use Rattle.record_values.specs.Backends.{IsBackend}
use Rattle.mesh_records.specs.Trees.{named_port, put_all}
use Rattle.mesh_records.proofs.service_trees.ports_value.Given as goal

-- the rest, put among the members so far, gives what all give
abbrev pub invariant-loop-port : goal.invariant-loop-port
invariant-loop-port l = record {
  members : put_all (members_view l.map.entries) (map named_port (drop l.port-index l.ports)) ≡ put_all no_members (map named_port l.ports);
  fit : AllByRecursion IsBackend (drop l.port-index l.ports) → AllByRecursion IsBackend l.ports;
}
