-- A text with a byte too many has that as its first fault.
use Rattle.std.proofs.Common.{◌≡◌, ◌<◌, ℕ, List, length, refl, Err}
use Rattle.std.proofs.lemmas.Bool.{lt-ltb}
use Rattle.scenario_lang.specs.Lines.{scenario_of}
use Rattle.scenario_lang.specs.declared.kinds.LineKind.TheVariants as kind
use Rattle.scenario_lang.specs.declared.kinds.Mode.TheVariants as mode

pub too_long : (text : List ℕ) → 16777216 < length text → scenario_of mode.Step text ≡ Err (record { line = 0; kind = kind.TooLong })
unfolding scenario_of
too_long text more = rw (lt-ltb 16777216 (length text) more) refl
