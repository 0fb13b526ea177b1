-- Checking a pair in two steps.
use Rattle.std.proofs.Common.{◌≡◌, ℕ, List, [], ◌∷◌, ◌++◌, Option, None, Some, Result, Ok, Err, refl, ◌∙◌}
use Rattle.key_paths.specs.declared.key.Key.{Key}
use Rattle.record_values.specs.declared.records.Record.{Record}
use Rattle.record_check.specs.declared.limit.Limit.{Limit}
use Rattle.record_check.specs.declared.fault.Fault.{Fault}
use Rattle.record_check.specs.Faults.{Row, first_fault, unless}
use Rattle.record_check.specs.Reading.{reading_rows, said, reading_of}
use Rattle.record_check.specs.Judging.{judgement, rows_of_said, pair_fault, record_in, checked, judged_by}

-- the first fault of rows and further rows
pub first_fault-append : {A : Type 0} (rows more : List Row) (answer : Result A Fault)
    → unless (first_fault (rows ++ more)) answer ≡ unless (first_fault rows) (unless (first_fault more) answer)
first_fault-append [] more answer = refl
first_fault-append (Some fault ∷ rows) more answer = refl
first_fault-append (None ∷ rows) more answer = first_fault-append rows more answer

by_said : (cluster : List ℕ) (id : ℕ) (limit : Limit) (bytes : Option Fault) (s : Result (Key × Record) Fault)
    → unless bytes (unless (first_fault (rows_of_said cluster id limit s)) (record_in s)) ≡ judged_by cluster id limit (unless bytes s)
unfolding judgement
by_said cluster id limit (Some fault) s = refl
by_said cluster id limit None (Ok (key, found)) = refl
by_said cluster id limit None (Err fault) = refl

pub checked_by_judging : (cluster : List ℕ) (id : ℕ) (limit : Limit) (key value : List ℕ)
    → checked cluster id limit key value ≡ judged_by cluster id limit (reading_of key value)
unfolding checked pair_fault reading_of
checked_by_judging cluster id limit key value =
    first_fault-append (reading_rows key value) (rows_of_said cluster id limit (said key value)) (record_in (said key value))
    ∙ by_said cluster id limit (first_fault (reading_rows key value)) (said key value)
