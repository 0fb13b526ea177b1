-- What the crates above may cite of pairs and configs.
use Rattle.std.proofs.Common.{◌≡◌, ℕ, List, [], ◌∷◌, Option, None, Some, Result, Ok, Err, refl, sym, ap, ◌∙◌}
use Rattle.mesh_text.specs.declared.kind.Kind.{Kind}
use Rattle.key_paths.specs.declared.key.Key.{Key}
use Rattle.key_paths.specs.declared.fault.KeyFault.{KeyFault}
use Rattle.key_paths.specs.Keys.{kind_of}
use Rattle.key_paths.specs.Reading.{◌>>=◌, key_of}
use Rattle.record_values.specs.declared.fault.ReadFault.{ReadFault}
use Rattle.record_values.specs.declared.records.Record.{Record}
use Rattle.record_reading.specs.Record.{record_of}
use Rattle.record_check.specs.declared.fault.Fault.{Fault}
use Rattle.record_check.specs.Faults.{Row, first_fault, unless, size_row, read_row}
use Rattle.record_check.specs.Reading.{with_kind, key_row, record_row, with_key, said_under, record_key_of, reading_of, kind_of_record, IsOfKind}
pub use Rattle.record_check.proofs.RecordKinds.{kind_of_read}
pub use Rattle.record_check.proofs.RecordKeys.{keys_in_ranges}
pub use Rattle.record_check.proofs.Checks.{first_fault-append, checked_by_judging}
pub use Rattle.record_check.proofs.Reserved.{owned_by_none, reserved_fit}
pub use Rattle.record_check.proofs.FirstFaults.{reading_fault, checked_fault, config_fault_is}

abbrev ok_pair : Key × Record → Result (Key × Record) Fault
ok_pair a = Ok a

same_ok : (a b : Key × Record) → ok_pair a ≡ ok_pair b → a ≡ b
same_ok a b h = cc

of_record : (kind : Kind) (value : List ℕ) (key : Key) → kind_of key ≡ Some kind
    → (size : Row) (read : Result Record ReadFault) → record_of kind value ≡ read
    → (k : Key) (r : Record) → unless (first_fault (size ∷ read_row read ∷ [])) (with_key key read) ≡ Ok (k, r) → IsOfKind k r
of_record kind value key is (Some fault) read e k r h = cc
of_record kind value key is None (Err why) e k r h = cc
of_record kind value key is None (Ok found) e k r h =
    let same = same_ok (key, found) (k, r) h in
    ap kind_of (sym (ap (λ (p : Key × Record). p.0) same)) ∙ is ∙ ap Some (sym (kind_of_read kind value found e))
    ∙ ap (λ (p : Key × Record). Some (kind_of_record p.1)) same

of_kind : (value : List ℕ) (key : Key) (kind : Option Kind) → kind_of key ≡ kind → (k : Key) (r : Record)
    → unless (first_fault (key_row (with_kind key kind) ∷ size_row value ∷ record_row (with_kind key kind) value ∷ [])) (said_under (with_kind key kind) value) ≡ Ok (k, r)
    → IsOfKind k r
of_kind value key None is k r h = cc
of_kind value key (Some kind) is k r h = of_record kind value key is (size_row value) (record_of kind value) refl k r h

of_key : (value : List ℕ) (read : Result Key KeyFault) (k : Key) (r : Record)
    → unless (first_fault (key_row (read >>= λ key. with_kind key (kind_of key)) ∷ size_row value ∷ record_row (read >>= λ key. with_kind key (kind_of key)) value ∷ [])) (said_under (read >>= λ key. with_kind key (kind_of key)) value) ≡ Ok (k, r)
    → IsOfKind k r
of_key value (Ok key) k r h = of_kind value key (kind_of key) refl k r h
of_key value (Err why) k r h = cc

-- what a reading has is a key of its record's kind
pub reading-IsOfKind : (key value : List ℕ) (k : Key) (r : Record) → reading_of key value ≡ Ok (k, r) → IsOfKind k r
unfolding reading_of record_key_of
reading-IsOfKind key value k r h = of_key value (key_of key) k r h
