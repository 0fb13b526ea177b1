use Rattle.std.proofs.Common.{◌≡◌, map, length}
use Rattle.std.specs.List.{AllByRecursion}
use Rattle.serde_json.specs.Data.{no_members}
use Rattle.serde_json.specs.View.{members_view}
use Rattle.record_values.specs.Backends.{IsBackend}
use Rattle.mesh_records.specs.Trees.{by_address, ports_under_address, put_all}
use Rattle.mesh_records.proofs.service_trees.addresses_value.Given as goal

-- the rest, put among the members so far, gives what all give
abbrev pub invariant-loop-first : goal.invariant-loop-first
invariant-loop-first l = record {
  members : put_all (members_view l.map.entries) (map ports_under_address (by_address l.rest)) ≡ put_all no_members (map ports_under_address (by_address l.backends));
  fit : AllByRecursion IsBackend l.rest → AllByRecursion IsBackend l.backends;
}

abbrev pub decreases-loop-first : goal.decreases-loop-first
decreases-loop-first l = length l.rest
