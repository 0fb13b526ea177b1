-- Readings whose keys are of their records' kinds.
use Rattle.std.specs.Prelude.{◌≡◌, ℕ, List, Bool, true, false, nat_eq, Option, Some, Ok, Err}
use Rattle.std.specs.Cmp.Lexicographic.{pointwise}
use Rattle.std.specs.HashMap.{HashMap, get}
use Rattle.mesh_text.specs.declared.kind.Kind.{Kind}
use Rattle.mesh_text.specs.declared.kind.Kind.TheVariants.{Nodes, Services, Identities, Addresses}
use Rattle.key_paths.specs.Keys.{kind_of}
use Rattle.record_values.specs.declared.records.Record.{Record}
use Rattle.record_values.specs.declared.records.Record.TheVariants.{Node, Service, Identity, Address}
use Rattle.shared_tables.specs.RecordSets.{Reading}

-- the kind is that of the record
abbrev pub has_kind : Option Kind → Record → Bool
has_kind (Some Nodes) (Node node) = true
has_kind (Some Services) (Service service) = true
has_kind (Some Identities) (Identity identity) = true
has_kind (Some Addresses) (Address address) = true
has_kind _ _ = false

-- a record that was read stands under a key of its kind
abbrev pub is_fit : Reading → Bool
is_fit (Ok (key, value)) = has_kind (kind_of key) value
is_fit (Err fault) = true

-- so does each that the map holds
abbrev pub AreFit : {S : Type 0} → HashMap (List ℕ) Reading S → Type 0
AreFit rows = (key : List ℕ) (reading : Reading)
    → get (pointwise nat_eq) rows key ≡ Some reading → is_fit reading ≡ true
