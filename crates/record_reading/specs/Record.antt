-- A record of any kind.
use Rattle.std.specs.Prelude.{ℕ, List, Result, Ok}
use Rattle.mesh_text.specs.declared.kind.Kind.{Kind}
use Rattle.mesh_text.specs.declared.kind.Kind.TheVariants as kind
use Rattle.record_values.specs.declared.fault.ReadFault.{ReadFault}
use Rattle.record_values.specs.declared.records.Record.{Record}
use Rattle.record_values.specs.declared.records.Record.TheVariants.{Node, Service, Identity, Address}
use Rattle.record_reading.specs.Judgement.{◌>>=◌, judged}
use Rattle.record_reading.specs.Node.{node_of}
use Rattle.record_reading.specs.Service.{service_of}
use Rattle.record_reading.specs.Identity.{identity_of}
use Rattle.record_reading.specs.Address.{address_record_of}

-- what the bytes say as a record of the kind: JSON with the kind's fields, or for an identity the text of its labels
abbrev pub record_of : Kind → List ℕ → Result Record ReadFault
record_of kind.Nodes bytes = judged node_of bytes >>= λ r. Ok (Node r)
record_of kind.Services bytes = judged service_of bytes >>= λ r. Ok (Service r)
record_of kind.Identities bytes = identity_of bytes >>= λ r. Ok (Identity r)
record_of kind.Addresses bytes = judged address_record_of bytes >>= λ r. Ok (Address r)
