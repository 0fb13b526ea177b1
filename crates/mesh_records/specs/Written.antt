-- What is written for a record.
use Rattle.std.specs.Prelude.{ℕ, List}
use Rattle.std.specs.List.{flat_map}
use Rattle.serde_json.specs.Written.{compact_text}
use Rattle.mesh_text.specs.declared.kind.Kind.{Kind}
use Rattle.mesh_text.specs.declared.kind.Kind.TheVariants.{Nodes, Services, Identities, Addresses}
use Rattle.record_values.specs.declared.records.Record.{Record}
use Rattle.record_values.specs.declared.records.Record.TheVariants.{Node, Service, Identity, Address}
use Rattle.record_values.specs.Labels.{label_text}
use Rattle.mesh_records.specs.Trees.{address_tree, node_tree, service_tree}

abbrev pub kind_of : Record → Kind
kind_of (Node r) = Nodes
kind_of (Service r) = Services
kind_of (Identity r) = Identities
kind_of (Address r) = Addresses

-- the compact text (RFC 8259, no space) of the record's JSON tree, or the text of its labels
abbrev pub text_of : Record → List ℕ
text_of (Node r) = compact_text (node_tree r)
text_of (Service r) = compact_text (service_tree r)
text_of (Identity r) = flat_map label_text r.labels
text_of (Address r) = compact_text (address_tree r)
