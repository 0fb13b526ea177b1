-- The shapes of a line's parameters: which words it may have, and what they say.
use Rattle.std.specs.Prelude.{ℕ, Bool, true, false, ◌&&◌, ◌||◌, bytes_eq, List, [], ◌∷◌, Result, Ok, Err, if◌then◌else◌}
use Rattle.std.specs.List.{list_all}
use Rattle.scenario_lang.specs.declared.draft.Draft.{Draft}
use Rattle.scenario_lang.specs.declared.kinds.LineKind.{LineKind}
use Rattle.scenario_lang.specs.declared.kinds.LineKind.TheVariants as kind
use Rattle.scenario_lang.specs.Judgement.{◌>>=◌}
use Rattle.scenario_lang.specs.Forms.{Form}

-- whether the words are as many as there must be, each with the look of its form; and what such
-- words say behind the lines so far, or the fault of the first faulty one from the left
pub record Shape (A : Type 0) : Type 0 where
  pub fits : List (List ℕ) → Bool
  pub says : Draft → List (List ℕ) → Result A LineKind

abbrev pub no_words : List (List ℕ) → Bool
no_words [] = true
no_words (w ∷ ws) = false

-- there is a first word, which passes with those behind it
abbrev pub passes : List (List ℕ) → (List ℕ → List (List ℕ) → Bool) → Bool
passes [] test = false
passes (w ∷ ws) test = test w ws

-- what the first word says with those behind it; one that is missing is a fault of Words
abbrev pub first_of : {A : Type 0} → List (List ℕ) → (List ℕ → List (List ℕ) → Result A LineKind) → Result A LineKind
first_of [] says = Err kind.Words
first_of (w ∷ ws) says = says w ws

-- no word
abbrev pub none : Shape (Unit {0})
none = record { fits = no_words; says = λ draft ws. Ok tt }

-- one word of this form
abbrev pub one : {A : Type 0} → Form A → Shape A
one form = record {
  fits = λ ws. passes ws (λ w more. form.looks w && no_words more);
  says = λ draft ws. first_of ws (λ w more. form.says draft w);
}

infixr 20 ◌▸◌
-- a word of this form, and then the others
abbrev pub ◌▸◌ : {A B : Type 0} → Form A → Shape B → Shape (A × B)
form ▸ shape = record {
  fits = λ ws. passes ws (λ w more. form.looks w && shape.fits more);
  says = λ draft ws. first_of ws (λ w more. form.says draft w >>= λ x. shape.says draft more >>= λ y. Ok (x, y));
}

-- this very word, and then the others
abbrev pub word : {A : Type 0} → List ℕ → Shape A → Shape A
word text shape = record {
  fits = λ ws. passes ws (λ w more. bytes_eq w text && shape.fits more);
  says = λ draft ws. first_of ws (λ w more. shape.says draft more);
}

-- what each word says, in order
abbrev pub each_said : {A : Type 0} → (List ℕ → Result A LineKind) → List (List ℕ) → Result (List A) LineKind
each_said says [] = Ok []
each_said says (w ∷ ws) = says w >>= λ x. each_said says ws >>= λ xs. Ok (x ∷ xs)

-- any number of words of this form, also none
abbrev pub many : {A : Type 0} → Form A → Shape (List A)
many form = record { fits = λ ws. list_all form.looks ws; says = λ draft ws. each_said (form.says draft) ws }

-- words of the first shape, or else of the second
abbrev pub or : {A : Type 0} → Shape A → Shape A → Shape A
or first second = record {
  fits = λ ws. first.fits ws || second.fits ws;
  says = λ draft ws. if first.fits ws then first.says draft ws else second.says draft ws;
}

-- what the words make
abbrev pub makes : {A B : Type 0} → (A → B) → Shape A → Shape B
makes made shape = record { fits = shape.fits; says = λ draft ws. shape.says draft ws >>= λ x. Ok (made x) }
