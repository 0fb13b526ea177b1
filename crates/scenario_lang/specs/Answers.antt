-- What the reader of a part answers.
use Rattle.std.specs.Prelude.{◌≡◌, ℕ, zero, suc, Bool, List, ◌++◌, Result, Ok, Err}
use Rattle.scenario_lang.specs.declared.draft.Draft.{Draft}
use Rattle.scenario_lang.specs.declared.kinds.LineFault.{LineFault}
use Rattle.scenario_lang.specs.declared.kinds.LineKind.{LineKind}
use Rattle.scenario_lang.specs.declared.kinds.Mode.{Mode}
use Rattle.scenario_lang.specs.declared.stops.Stop.{Stop}
use Rattle.scenario_lang.specs.declared.stops.Stop.TheVariants as stop
use Rattle.scenario_lang.specs.Judgement.{◌>>=◌, at_line}
use Rattle.scenario_lang.specs.Lines.{after_line, line_said}
use Rattle.scenario_lang.specs.Shapes.{no_words, passes}

-- a stop for this fault, or for want of memory
abbrev pub Fails : {F A : Type 0} → Stop F → Result A F → Type 0
Fails stop.Memory judgement = Unit {0}
Fails (stop.Fault fault) judgement = judgement ≡ Err fault

-- the answer is the judgement, unless memory is wanted
abbrev pub Gives : {F A : Type 0} → Result A (Stop F) → Result A F → Type 0
Gives (Ok x) judgement = judgement ≡ Ok x
Gives (Err e) judgement = Fails e judgement

-- so many words
abbrev pub has : ℕ → List (List ℕ) → Bool
has zero ws = no_words ws
has (suc n) ws = passes ws (λ w more. has n more)

-- what is read behind a front
abbrev pub with_front : {A F : Type 0} → List A → Result (List A) F → Result (List A) F
with_front front read = read >>= λ xs. Ok (front ++ xs)

-- a stop in this line
abbrev pub stop_in : ℕ → Stop LineKind → Stop LineFault
stop_in n stop.Memory = stop.Memory
stop_in n (stop.Fault kind) = stop.Fault (record { line = n; kind = kind })

-- the lines so far with this one, which has the number n
abbrev pub taken : Mode → Draft → ℕ → List ℕ → Result Draft LineFault
taken how draft n line = at_line n (line_said how draft line) >>= λ said. Ok (after_line n draft said)
