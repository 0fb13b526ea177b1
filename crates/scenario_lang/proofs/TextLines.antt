-- One line of a text after the other.
use Rattle.std.proofs.Common.{◌≡◌, ◌==◌, ℕ, ◌+◌, Bool, true, false, cond, List, [], ◌∷◌, Option, Result, Ok, Err, refl, sym, ◌∙◌}
use Rattle.std.specs.List.{onto_first}
use Rattle.mesh_text.specs.Addresses.{split_at}
use Rattle.scenario_lang.specs.declared.draft.Draft.{Draft}
use Rattle.scenario_lang.specs.declared.entry.Entry.{Entry}
use Rattle.scenario_lang.specs.declared.kinds.LineFault.{LineFault}
use Rattle.scenario_lang.specs.declared.kinds.Mode.{Mode}
use Rattle.scenario_lang.specs.declared.stops.Stop.{Stop}
use Rattle.scenario_lang.specs.declared.stops.Stop.TheVariants as stop
use Rattle.scenario_lang.specs.Judgement.{◌>>=◌, at_line}
use Rattle.scenario_lang.specs.Lines.{Said, after_line, line_said, lines_said}
use Rattle.scenario_lang.specs.Answers.{Fails, taken}

-- there is always a piece
split_some : (sep : ℕ) (xs : List ℕ) → (p : List ℕ × List (List ℕ)) × (split_at sep xs ≡ p.0 ∷ p.1)
split_some sep [] = (([], []), refl)
split_some sep (c ∷ cs) = by (c == sep) (split_at sep cs)
  where
    by : (b : Bool) (pieces : List (List ℕ)) → (p : List ℕ × List (List ℕ)) × (cond b ([] ∷ pieces) (onto_first c pieces) ≡ p.0 ∷ p.1)
    by true pieces = (([], pieces), refl)
    by false [] = ((c ∷ [], []), refl)
    by false (q ∷ qs) = ((c ∷ q, qs), refl)

-- the first line, and then the others
pub line_first : (how : Mode) (draft : Draft) (n : ℕ) (line left more : List ℕ) → split_at 10 left ≡ line ∷ split_at 10 more
    → lines_said how draft n (split_at 10 left) ≡ (taken how draft n line >>= λ d. lines_said how d (n + 1) (split_at 10 more))
unfolding lines_said
line_first how draft n line left more cut =
    let next = split_some 10 more in
    rw (cut, next.1) (by (at_line n (line_said how draft line)) (next.0.0 ∷ next.0.1))
  where
    by : (read : Result (Option Entry) LineFault) (pieces : List (List ℕ))
        → (read >>= λ said. lines_said how (after_line n draft said) (n + 1) pieces)
        ≡ ((read >>= λ said. Ok (after_line n draft said)) >>= λ d. lines_said how d (n + 1) pieces)
    by (Ok said) pieces = refl
    by (Err fault) pieces = refl

pub line_taken : (how : Mode) (draft next : Draft) (n : ℕ) (line left more : List ℕ) (total : Result Said LineFault) → split_at 10 left ≡ line ∷ split_at 10 more
    → taken how draft n line ≡ Ok next → lines_said how draft n (split_at 10 left) ≡ total → lines_said how next (n + 1) (split_at 10 more) ≡ total
line_taken how draft next n line left more total cut takes so_far =
    let first = line_first how draft n line left more cut in sym (rw takes at first) ∙ so_far

pub line_halted : (how : Mode) (draft : Draft) (n : ℕ) (line left more : List ℕ) (e : Stop LineFault) (total : Result Said LineFault) → split_at 10 left ≡ line ∷ split_at 10 more
    → Fails e (taken how draft n line) → lines_said how draft n (split_at 10 left) ≡ total → Fails e total
line_halted how draft n line left more stop.Memory total cut fails so_far = tt
line_halted how draft n line left more (stop.Fault fault) total cut fails so_far =
    let first = line_first how draft n line left more cut in sym so_far ∙ rw fails at first
