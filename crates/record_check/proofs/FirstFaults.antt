-- An answer's fault is the first of the table, and it has one exactly where a row of the table holds.
use Rattle.std.proofs.Common.{◌≡◌, ℕ, List, [], ◌∷◌, ◌++◌, Option, None, Some, Result, Ok, Err, refl}
use Rattle.std.specs.Result.{result_err}
use Rattle.mesh_text.specs.declared.kind.Kind.{Kind}
use Rattle.key_paths.specs.declared.key.Key.{Key}
use Rattle.key_paths.specs.declared.fault.KeyFault.{KeyFault}
use Rattle.record_values.specs.declared.fault.ReadFault.{ReadFault}
use Rattle.record_values.specs.declared.records.Record.{Record}
use Rattle.record_values.specs.Values.{Config}
use Rattle.record_reading.specs.Record.{record_of}
use Rattle.record_reading.specs.Config.{config_of}
use Rattle.record_reading.specs.Judgement.{judged}
use Rattle.record_check.specs.declared.limit.Limit.{Limit}
use Rattle.record_check.specs.declared.fault.Fault.{Fault}
use Rattle.record_check.specs.Faults.{Row, first_fault, unless, size_row, read_row}
use Rattle.record_check.specs.Reading.{key_row, record_row, reading_rows, with_key, said_under, said, record_key_of, reading_of}
use Rattle.record_check.specs.Judging.{rows_of_said, pair_fault, record_in, checked}
use Rattle.record_check.specs.Configs.{limit_rows, config_said, config_fault, checked_config}

fault_of_unless : {A : Type 0} (fault : Option Fault) (answer : Result A Fault)
    → (fault ≡ None → result_err answer ≡ None) → result_err (unless fault answer) ≡ fault
fault_of_unless (Some fault) answer h = refl
fault_of_unless None answer h = h refl

read_without_fault : (key : Key) (size : Row) (read : Result Record ReadFault)
    → first_fault (size ∷ read_row read ∷ []) ≡ None → result_err (with_key key read) ≡ None
read_without_fault key (Some fault) read h = cc
read_without_fault key None (Ok found) h = refl
read_without_fault key None (Err why) h = cc

said_without_fault : (key : Result (Key × Kind) KeyFault) (size : Row) (value : List ℕ)
    → first_fault (key_row key ∷ size ∷ record_row key value ∷ []) ≡ None
    → result_err (said_under key value) ≡ None
said_without_fault (Ok (key, kind)) size value h = read_without_fault key size (record_of kind value) h
said_without_fault (Err why) size value h = cc

pub reading_fault : (key value : List ℕ) → result_err (reading_of key value) ≡ first_fault (reading_rows key value)
unfolding reading_of
reading_fault key value =
    fault_of_unless (first_fault (reading_rows key value)) (said key value)
    (said_without_fault (record_key_of key) (size_row value) value)

first_of_both : (rows more : List Row) → first_fault (rows ++ more) ≡ None → first_fault rows ≡ None
first_of_both [] more h = refl
first_of_both (Some fault ∷ rows) more h = cc
first_of_both (None ∷ rows) more h = first_of_both rows more h

record_without_fault : (s : Result (Key × Record) Fault) → result_err s ≡ None → result_err (record_in s) ≡ None
record_without_fault (Ok (key, found)) h = refl
record_without_fault (Err fault) h = cc

pub checked_fault : (cluster : List ℕ) (id : ℕ) (limit : Limit) (key value : List ℕ)
    → result_err (checked cluster id limit key value) ≡ pair_fault cluster id limit key value
unfolding checked pair_fault
checked_fault cluster id limit key value =
    fault_of_unless (pair_fault cluster id limit key value) (record_in (said key value))
    (λ h. record_without_fault (said key value)
    (said_without_fault (record_key_of key) (size_row value) value
    (first_of_both (reading_rows key value) (rows_of_said cluster id limit (said key value)) h)))

config_without_fault : (size : Row) (limit : Limit) (read : Result Config ReadFault)
    → first_fault (size ∷ read_row read ∷ limit_rows limit read) ≡ None → result_err (config_said read) ≡ None
config_without_fault (Some fault) limit read h = cc
config_without_fault None limit (Ok config) h = refl
config_without_fault None limit (Err why) h = cc

pub config_fault_is : (limit : Limit) (value : List ℕ) → result_err (checked_config limit value) ≡ config_fault limit value
unfolding checked_config config_fault
config_fault_is limit value =
    fault_of_unless (config_fault limit value) (config_said (judged config_of value))
    (config_without_fault (size_row value) limit (judged config_of value))
