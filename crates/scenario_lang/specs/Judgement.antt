-- Judgements: what was read, or the first fault.
use Rattle.std.specs.Prelude.{ℕ, Bool, Option, Some, None, Result, Ok, Err, if◌then◌else◌}
use Rattle.scenario_lang.specs.declared.kinds.LineKind.{LineKind}
use Rattle.scenario_lang.specs.declared.kinds.LineFault.{LineFault}

infixl 10 ◌>>=◌
-- first this judgement, then the next with what it gave; the first fault is the answer
abbrev pub ◌>>=◌ : {A B E : Type 0} → Result A E → (A → Result B E) → Result B E
(Ok x) >>= next = next x
(Err e) >>= next = Err e

-- what is there, or this fault
abbrev pub or_fault : {A : Type 0} → Option A → LineKind → Result A LineKind
or_fault (Some x) fault = Ok x
or_fault None fault = Err fault

-- this fault, where the test passes
abbrev pub refused_if : Bool → LineKind → Result (Unit {0}) LineKind
refused_if test fault = if test then Err fault else Ok tt

-- a fault stands in this line
abbrev pub at_line : {A : Type 0} → ℕ → Result A LineKind → Result A LineFault
at_line n (Ok x) = Ok x
at_line n (Err kind) = Err (record { line = n; kind = kind })
