use Rattle.std.proofs.Common.{◌≡◌, ◌<◌, ℕ, List, length, refl, ap, ◌∙◌, Option, None, Some, Result, Ok, Err, IfSome}
use Rattle.scenario_lang.specs.Lines.{Said, scenario_of}
use Rattle.scenario_lang.specs.declared.kinds.LineFault.{LineFault}
use Rattle.scenario_lang.specs.declared.kinds.LineKind.TheVariants as kind
use Rattle.scenario_lang.specs.declared.kinds.Mode.TheVariants as mode
use Rattle.scenario_replay.specs.declared.input.Unread.{Unread}
use Rattle.scenario_replay.specs.declared.input.Unread.TheVariants as unread
use Rattle.scenario_replay.proofs.TooLong.{too_long}
use Rattle.scenario_replay.proofs.input.read_input.Goals as goal

abbrev whole : LineFault
whole = record { line = 0; kind = kind.TooLong }

-- the fault of a refusal
abbrev fault_in : Result Said Unread → LineFault
fault_in (Err (unread.Refused fault)) = fault
fault_in (Err unread.Failed) = whole
fault_in (Err unread.Memory) = whole
fault_in (Ok said) = whole

refused : (left : Option (List ℕ)) (fault : LineFault) → whole ≡ fault → IfSome left (λ all. 16777216 < length all) → IfSome left (λ input. scenario_of mode.Step input ≡ Err fault)
refused None fault same more = tt
refused (Some input) fault same more = too_long input more ∙ ap (λ (f : LineFault). Err f) same

pub returns-in-Err-TooLong-clause-refused : goal.returns-in-Err-TooLong-clause-refused
returns-in-Err-TooLong-clause-refused g c = λ fault e.
    let said = rw c.in-Err-TooLong.field-0-is at c.in-Err-TooLong.ensures in
    refused (g.R.Source.left c.args.source.now) fault (ap fault_in e) (said.too_long refl)
