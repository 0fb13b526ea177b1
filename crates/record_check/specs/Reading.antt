-- What a pair says by its bytes alone: a record under the key of one, or the first fault.
-- Source: Cilium's kvstore key formats, where the key tells which kind of record the value is.
use Rattle.std.specs.Prelude.{◌≡◌, ℕ, List, [], ◌∷◌, Option, None, Some, Result, Ok, Err}
use Rattle.mesh_text.specs.declared.kind.Kind.{Kind}
use Rattle.mesh_text.specs.declared.kind.Kind.TheVariants as kind
use Rattle.key_paths.specs.declared.key.Key.{Key}
use Rattle.key_paths.specs.declared.fault.KeyFault.{KeyFault}
use Rattle.key_paths.specs.declared.fault.KeyFault.TheVariants.{UnknownPrefix}
use Rattle.key_paths.specs.Keys.{kind_of}
use Rattle.key_paths.specs.Reading.{◌>>=◌, key_of}
use Rattle.record_values.specs.declared.fault.ReadFault.{ReadFault}
use Rattle.record_values.specs.declared.records.Record.{Record}
use Rattle.record_values.specs.declared.records.Record.TheVariants.{Node, Service, Identity, Address}
use Rattle.record_reading.specs.Record.{record_of}
use Rattle.record_check.specs.declared.fault.Fault.{Fault}
use Rattle.record_check.specs.declared.fault.Fault.TheVariants as fault
use Rattle.record_check.specs.Faults.{Row, first_fault, unless, size_row, read_row}

-- a key with its kind of record; any other key has none of the beginnings of a record's key
abbrev pub with_kind : Key → Option Kind → Result (Key × Kind) KeyFault
with_kind key None = Err UnknownPrefix
with_kind key (Some kind) = Ok (key, kind)

-- the key of a record that the bytes are, with the record's kind, or the first of their faults
unfoldable pub record_key_of : List ℕ → Result (Key × Kind) KeyFault
record_key_of bytes = key_of bytes >>= λ key. with_kind key (kind_of key)

-- the key has a fault
abbrev pub key_row : Result (Key × Kind) KeyFault → Row
key_row (Ok key) = None
key_row (Err why) = Some (fault.Key why)

-- the value has a fault as a record of the key's kind
abbrev pub record_row : Result (Key × Kind) KeyFault → List ℕ → Row
record_row (Ok (key, kind)) value = read_row (record_of kind value)
record_row (Err why) value = None

-- the rows that the bytes decide, in their order
abbrev pub reading_rows : List ℕ → List ℕ → List Row
reading_rows key value =
    key_row (record_key_of key) ∷ size_row value ∷ record_row (record_key_of key) value ∷ []

abbrev pub with_key : Key → Result Record ReadFault → Result (Key × Record) Fault
with_key key (Ok found) = Ok (key, found)
with_key key (Err why) = Err (fault.Read why)

-- what key and value say, whatever the size of the value
abbrev pub said_under : Result (Key × Kind) KeyFault → List ℕ → Result (Key × Record) Fault
said_under (Ok (key, kind)) value = with_key key (record_of kind value)
said_under (Err why) value = Err (fault.Key why)

abbrev pub said : List ℕ → List ℕ → Result (Key × Record) Fault
said key value = said_under (record_key_of key) value

-- the reading of a pair: the first fault of its bytes, else its key and its record
unfoldable pub reading_of : List ℕ → List ℕ → Result (Key × Record) Fault
reading_of key value = unless (first_fault (reading_rows key value)) (said key value)

-- the kind that a record is of
abbrev pub kind_of_record : Record → Kind
kind_of_record (Node node) = kind.Nodes
kind_of_record (Service service) = kind.Services
kind_of_record (Identity identity) = kind.Identities
kind_of_record (Address address) = kind.Addresses

-- the key is one of the record's kind
abbrev pub IsOfKind : Key → Record → Type 0
IsOfKind key found = kind_of key ≡ Some (kind_of_record found)
