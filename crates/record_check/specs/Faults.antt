-- Rows of a table of faults, and the first that holds. The faults and their order are this
-- control plane's own, as is the size of a value (etcd's own limit of a request is larger).
use Rattle.std.specs.Prelude.{◌≡◌, ℕ, Bool, false, not, List, [], ◌∷◌, length, nat_le, Option, None, Some, Result, Ok, Err, if◌then◌else◌}
use Rattle.key_paths.specs.declared.fault.KeyFault.TheVariants as key_fault
use Rattle.record_values.specs.declared.fault.ReadFault.{ReadFault}
use Rattle.record_values.specs.declared.fault.ReadFault.TheVariants as read_fault
use Rattle.record_check.specs.declared.fault.Fault.{Fault}
use Rattle.record_check.specs.declared.fault.Fault.TheVariants as fault
use Rattle.record_check.specs.Limits.{longest_value}

-- a row of a table: its fault, where its condition holds
abbrev pub Row : Type 0
Row = Option Fault

-- this fault, where the condition holds
abbrev pub fault_if : Bool → Fault → Row
fault_if condition fault = if condition then Some fault else None

-- the fault of the first row whose condition holds, if one does
abbrev pub first_fault : List Row → Option Fault
first_fault [] = None
first_fault (Some fault ∷ rows) = Some fault
first_fault (None ∷ rows) = first_fault rows

-- the fault where there is one, else the answer
abbrev pub unless : {A : Type 0} → Option Fault → Result A Fault → Result A Fault
unless (Some fault) answer = Err fault
unless None answer = answer

-- the value is longer than a value may be
abbrev pub size_row : List ℕ → Row
size_row value = fault_if (not (nat_le (length value) longest_value)) (fault.TooLarge (length value))

-- what was read has a fault
abbrev pub read_row : {A : Type 0} → Result A ReadFault → Row
read_row (Ok read) = None
read_row (Err why) = Some (fault.Read why)

-- both are there, and they are not the same
abbrev pub differ : {A : Type 0} → (A → A → Bool) → Option A → Option A → Bool
differ same (Some a) (Some b) = not (same a b)
differ same None _ = false
differ same (Some a) None = false

-- the fault says what is wrong with the pair, and not that memory was wanted
abbrev pub IsNamed : Fault → Type 0
IsNamed (fault.Key why) = why ≡ key_fault.Memory → ⊥
IsNamed (fault.Read why) = why ≡ read_fault.Memory → ⊥
IsNamed _ = Unit {0}
