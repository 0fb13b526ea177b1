-- What the program does with its words, its input, its output and the stores.
use Rattle.std.specs.Prelude.{◌≡◌, ℕ, List, [], ◌∷◌, ◌++◌, Option, Ok, Err, codes, Bool, false, bytes_eq, ◌⊎◌, length, IfSome}
use Rattle.std.specs.Fmt.{decimal}
use Rattle.store_api.specs.Meaning.{Meaning}
use Rattle.store_api.specs.Streams.{HoldsFront, HoldsMore, Took}
use Rattle.scenario_lang.specs.Lines.{Said, scenario_of}
use Rattle.scenario_lang.specs.declared.kinds.LineFault.{LineFault}
use Rattle.scenario_lang.specs.declared.kinds.LineKind.{LineKind}
use Rattle.scenario_lang.specs.declared.kinds.LineKind.TheVariants as kind
use Rattle.scenario_lang.specs.declared.kinds.Mode.TheVariants as mode
use Rattle.mesh_world.specs.Actions.{run}
use Rattle.mesh_world.specs.Runs.{Reports, contents_of}

-- the input is a scenario, and all its reports were written
pub record Ran (input : List ℕ) (before after : List Meaning) (held holds : Option (List ℕ)) : Type 0 where
  pub said : Said
  pub reads : scenario_of mode.Step input ≡ Ok said
  pub text : List ℕ
  pub reports : Reports said before after text
  pub wrote : HoldsMore held holds text

-- the input is a scenario, and a front of its reports was written
pub record WroteFront (input : List ℕ) (before after : List Meaning) (held holds : Option (List ℕ)) : Type 0 where
  pub said : Said
  pub reads : scenario_of mode.Step input ≡ Ok said
  pub text : List ℕ
  pub reports : Reports said before after text
  pub wrote : HoldsFront held holds text

-- Where no store's count of faults rose, the text and the contents of the stores are those of the run in
-- which every call is made: a function of the scenario and the first contents.
pub record RanPlainly (input : List ℕ) (before after : List Meaning) (held holds : Option (List ℕ)) : Type 0 where
  pub said : Said
  pub reads : scenario_of mode.Step input ≡ Ok said
  pub wrote : HoldsMore held holds (run said (contents_of before) []).0.text
  pub stores : contents_of after ≡ (run said (contents_of before) []).0.stores

-- the words are the one word `step`
abbrev pub is_step : List (List ℕ) → Bool
is_step (word ∷ []) = bytes_eq word (codes "step")
is_step _ = false

-- The source was read to its end, or one byte more than an input may have was taken, and nothing behind it.
abbrev pub TookEnough : Option (List ℕ) → Option (List ℕ) → Type 0
TookEnough left rest = (taken : List ℕ) × Took left rest taken × (IfSome rest (λ bytes. bytes ≡ []) ⊎ (length taken ≡ 16777217))

-- the words that the kinds of fault have
abbrev pub kind_word : LineKind → List ℕ
kind_word kind.Header = codes "header"
kind_word kind.Words = codes "words"
kind_word kind.Name = codes "name"
kind_word kind.Number = codes "number"
kind_word kind.Address = codes "address"
kind_word kind.UnknownCluster = codes "unknown_cluster"
kind_word kind.Repeated = codes "repeated"
kind_word kind.Mode = codes "mode"
kind_word kind.TooLong = codes "too_long"
kind_word kind.TooHeavy = codes "too_heavy"
kind_word kind.TooManyRemotes = codes "too_many_remotes"

-- line <line> <kind word>
abbrev pub refusal_line : LineFault → List ℕ
refusal_line fault = codes "line " ++ (decimal fault.line ++ (codes " " ++ (kind_word fault.kind ++ codes "\n")))

abbrev pub usage_line : List ℕ
usage_line = codes "usage: step | check | generate <n> | run <probes>\n"

-- a front of what was to be written: of the usage line for other words, of the line on the input's first
-- fault, or of the reports
pub data WroteSome (words : List (List ℕ)) (input : List ℕ) (before after : List Meaning) (held holds : Option (List ℕ)) : Type 0 where
  OfUsage : is_step words ≡ false → HoldsFront held holds usage_line → WroteSome words input before after held holds
  OfRefusal : (fault : LineFault) → scenario_of mode.Step input ≡ Err fault → HoldsFront held holds (refusal_line fault) → WroteSome words input before after held holds
  OfReports : WroteFront input before after held holds → WroteSome words input before after held holds
