-- The eight kinds of step: what each does to the seat that makes it.
-- Draw, Look and Serve are those of a ticket lock; Out and Home move the value out of the held slot and back; Number, Split and Join make and end passes.
-- Hear is the load behind a join: it changes nothing but what the joined view keeps for it, and tells that the log seen begins with both logs.
use Rattle.std.specs.Prelude.{◌≡◌, ◌≢◌, ℕ, ◌+◌, ◌%◌, List, [], ◌∷◌, ◌++◌, false, Option, Some, None, IsSome}
use Rattle.atomic_table.specs.Table.{Me, Step, rest}
use Rattle.turn_cell.specs.declared.view.View.{View}
use Rattle.turn_cell.specs.declared.view.Stage.{Stage}
use Rattle.turn_cell.specs.declared.view.Stage.TheVariants.{Outside, Waiting, Inside}
use Rattle.turn_cell.specs.Logs.{Log, Begins, Each, after, AreExact, grown, longer}

module _ {E F : Type 0} where
  -- the same view at another stage
  abbrev pub at_stage : View E F → Stage → View E F
  at_stage v st = record v { stage = st }

  -- inside, with the log found
  abbrev pub view_inside : View E F → ℕ → Log E → View E F
  view_inside v t now = record v { stage = Inside t; seen = now }

  -- outside again, after a turn that left this log
  abbrev pub view_after_turn : View E F → Log E → View E F
  view_after_turn v now = record v { stage = Outside; seen = now; accounts = grown (after v.seen now) v.accounts; turns = v.turns + 1; trace = v.trace ++ (v.seen, now) ∷ [] }

  -- one number more was drawn, and is kept for a split
  abbrev pub view_numbered : View E F → View E F
  view_numbered v = record v { drawn = v.drawn + 1; spare = (v.drawn + 2, []) ∷ [] }

  -- Split: the view that stays
  abbrev pub view_after_split : View E F → View E F
  view_after_split v = record v { spare = [] }

  -- Split: the new view, with the number that was kept; it has seen as much, and done nothing
  abbrev pub view_split_off : View E F → View E F
  view_split_off v = record { stage = Outside; seen = v.seen; accounts = v.spare; spare = []; joining = []; turns = 0; trace = []; drawn = 0; first = false; opening = v.opening; fixed = v.fixed }

  -- Join: the view that takes in the other keeps the longer log, and all accounts
  abbrev pub view_joined : View E F → View E F → View E F
  view_joined v w = record v { seen = longer v.seen w.seen; accounts = v.accounts ++ w.accounts; joining = v.seen ∷ w.seen ∷ [] }

  -- Join: what the other is left with
  abbrev pub view_spent : View E F
  view_spent = record { stage = Outside; seen = []; accounts = []; spare = []; joining = []; turns = 0; trace = []; drawn = 0; first = false; opening = []; fixed = None }

  -- Hear: the joined logs are dropped
  abbrev pub view_heard : View E F → View E F
  view_heard v = record v { joining = [] }

  -- of a view that isn't spent: the log seen begins with the opening, and each account is exact behind it
  abbrev pub ViewAccounted : View E F → Type 0
  ViewAccounted v = IsSome v.fixed → Begins v.opening v.seen × AreExact (after v.opening v.seen) (v.accounts ++ v.spare)

module _ {T E F : Type 0} where
  -- Out: the value is moved out of the held slot; no word and no view changes
  abbrev pub Out : Me (Option T) (View E F) → T → Me (Option T) (View E F) → Type 0
  Out m x m' = (m.1 ≡ (0, Some x) ∷ rest m.1) × (m' ≡ (m.0, (0, None) ∷ rest m.1))

  -- Home: the value is moved back into it; no word and no view changes
  abbrev pub Home : Me (Option T) (View E F) → T → Me (Option T) (View E F) → Type 0
  Home m x m' = (m.1 ≡ (0, None) ∷ rest m.1) × (m' ≡ (m.0, (0, Some x) ∷ rest m.1))

module _ {T E F : Type 0} (log : T → Log E) (fixed : T → F) where
  -- a seat's view, and the slots that it holds
  abbrev pub Me' : Type 0
  Me' = Me (Option T) (View E F)

  -- Draw: the next ticket is drawn, and the view waits with it
  abbrev pub Draw : Step (Option T) → Me' → ℕ → Me' → Type 0
  Draw st m found m' = (t : ℕ) × (found ≡ t % 18446744073709551616) × (m' ≡ (at_stage m.0 (Waiting t), m.1))

  -- of a view that isn't spent: it has the fixed part of this value
  abbrev pub IsFixedAs : View E F → T → Type 0
  IsFixedAs v x = IsSome v.fixed → v.fixed ≡ Some (fixed x)

  -- the slot is taken with a value, whose log begins with what was seen and whose fixed part is the first value's
  abbrev pub Found : Me' → ℕ → Me' → Type 0
  Found m t m' = (x : T) × (m' ≡ (view_inside m.0 t (log x), (0, Some x) ∷ m.1)) × Begins m.0.seen (log x) × IsFixedAs m.0 x × ViewAccounted m'.0

  -- Look: the ticket served is looked at: where it is the view's, the view is inside, else nothing changes
  abbrev pub Look : Step (Option T) → Me' → ℕ → Me' → Type 0
  Look st m found m' = (t : ℕ) → m.0.stage ≡ Waiting t → (found ≡ t % 18446744073709551616 → Found m t m') × (found ≢ t % 18446744073709551616 → m' ≡ m)

  -- Serve: the slot is given back with the value, and the next ticket is served
  abbrev pub Serve : Step (Option T) → Me' → ℕ → Me' → Type 0
  Serve st m found m' = (k : ℕ) (x : T) (slots : List (ℕ × Option T)) → m.1 ≡ (k, Some x) ∷ slots → (m' ≡ (view_after_turn m.0 (log x), slots)) × ViewAccounted m'.0

  -- Number: the first view draws the next number
  abbrev pub Number : Step (Option T) → Me' → ℕ → Me' → Type 0
  Number st m found m' = (found ≡ m.0.drawn + 2) × (m' ≡ (view_numbered m.0, m.1)) × ViewAccounted m'.0

  -- Hear: the log seen begins with both of the joined logs
  abbrev pub Hear : Step (Option T) → Me' → ℕ → Me' → Type 0
  Hear st m found m' = (m' ≡ (view_heard m.0, m.1)) × Each (λ l. Begins l m.0.seen) m.0.joining × ViewAccounted m'.0
