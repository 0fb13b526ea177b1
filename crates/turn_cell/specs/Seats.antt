-- The seat behind a pass: what its steps ask and leave, and what contracts see of it.
use Rattle.std.specs.Prelude.{◌≡◌, ◌==◌, ℕ, ◌%◌, Bool, true, false, IsSome, List, [], ◌∷◌, Option, Some, None}
use Rattle.atomic_table.specs.Table.{Me}
use Rattle.atomic_table.specs.declared.shared.Seat.{Seat}
use Rattle.turn_cell.specs.declared.view.View.{View}
use Rattle.turn_cell.specs.declared.view.Stage.{Stage}
use Rattle.turn_cell.specs.declared.view.Stage.TheVariants.{Outside, Waiting, Inside}
use Rattle.turn_cell.specs.Logs.{Log, Account, Begins, AddsOwn}
use Rattle.turn_cell.specs.Steps.{at_stage, view_inside, view_after_turn, ViewAccounted, IsFixedAs}
use Rattle.turn_cell.specs.Knowledge.{Cell, Knowledge, IsAccounted, IsTraced}

-- whether a view has the value out
abbrev pub is_inside : Stage → Bool
is_inside Outside = false
is_inside (Waiting t) = false
is_inside (Inside t) = true

module _ {E : Type 0} where
  -- the entries of the first account
  abbrev pub own_of : List (Account E) → Log E
  own_of [] = []
  own_of (a ∷ others) = a.1

  -- the other accounts
  abbrev pub gathered_of : List (Account E) → List (Account E)
  gathered_of [] = []
  gathered_of (a ∷ others) = others

module _ {E F : Type 0} where
  -- nothing is left over from a split or a join
  abbrev pub IsSettled : View E F → Type 0
  IsSettled v = (v.spare ≡ []) × (v.joining ≡ [])

  -- the view's first account has this number
  abbrev pub IsNumbered : ℕ → View E F → Type 0
  IsNumbered n v = (own : Log E) × (gathered : List (Account E)) × (v.accounts ≡ (n, own) ∷ gathered)

-- between turns a seat holds no slot; inside a turn it holds the empty slot
abbrev pub HoldsAt : {T : Type 0} → Stage → List (ℕ × Option T) → Type 0
HoldsAt Outside slots = slots ≡ []
HoldsAt (Waiting t) slots = ⊥
HoldsAt (Inside t) slots = slots ≡ (0, None) ∷ []

module _ {T E F : Type 0} where
  -- outside, with nothing held or left over
  abbrev pub IsIdle : Me (Option T) (View E F) → Type 0
  IsIdle m = (m.0.stage ≡ Outside) × (m.1 ≡ []) × IsSettled m.0

  -- inside, with the value out of its slot
  abbrev pub HasOut : Me (Option T) (View E F) → Type 0
  HasOut m = ((t : ℕ) × (m.0.stage ≡ Inside t)) × (m.1 ≡ (0, None) ∷ []) × IsSettled m.0

  -- the seat has drawn the ticket, and waits
  abbrev pub IsWaiting : Me (Option T) (View E F) → Me (Option T) (View E F) → ℕ → Type 0
  IsWaiting m m' n = (t : ℕ) × (n ≡ t % 18446744073709551616) × (m' ≡ (at_stage m.0 (Waiting t), m.1))

  -- the same seat of the same table
  abbrev pub IsSameSeat : Seat (Option T) (View E F) → Seat (Option T) (View E F) → Type 0
  IsSameSeat p q = (q.table_id ≡ p.table_id) × (q.id ≡ p.id)

  -- the cell that a seat is of
  abbrev pub cell_of : Seat (Option T) (View E F) → Cell E F
  cell_of p = record { table = p.table_id; opening = p.me.0.opening; fixed = p.me.0.fixed }

  -- what contracts see of a pass with this number and seat
  abbrev pub knowledge : ℕ → Seat (Option T) (View E F) → Knowledge E F
  knowledge n p = record { cell = cell_of p; number = n; inside = is_inside p.me.0.stage; seen = p.me.0.seen; own = own_of p.me.0.accounts; gathered = gathered_of p.me.0.accounts; drawn = p.me.0.drawn; turns = p.me.0.turns; trace = p.me.0.trace }

  -- what is true of every pass
  pub record IsPass (n : ℕ) (p : Seat (Option T) (View E F)) : Type 0 where
    pub holds : HoldsAt p.me.0.stage p.me.1
    pub settled : IsSettled p.me.0
    pub numbered : IsNumbered n p.me.0
    pub leads : p.me.0.first ≡ (n == 1)
    pub fixed : IsSome p.me.0.fixed
    pub accounted : IsAccounted (knowledge n p)
    pub traced : IsTraced (knowledge n p)

module _ {T E F : Type 0} (log : T → Log E) (fixed : T → F) where
  -- the seat came in, and found this value
  abbrev pub CameIn : Me (Option T) (View E F) → Me (Option T) (View E F) → T → Type 0
  CameIn m m' x = ((t : ℕ) × (m' ≡ (view_inside m.0 t (log x), (0, None) ∷ []))) × Begins m.0.seen (log x) × IsFixedAs log fixed m.0 x × ViewAccounted m'.0

  -- the value may be left: its log is the log found and then own entries, and its fixed part is the one found
  abbrev pub MayLeave : Me (Option T) (View E F) → T → Type 0
  MayLeave m x = ((n : ℕ) × IsNumbered n m.0 × AddsOwn n m.0.seen (log x)) × (m.0.fixed ≡ Some (fixed x))

  -- the seat left the value
  abbrev pub Left : Me (Option T) (View E F) → Me (Option T) (View E F) → T → Type 0
  Left m m' x = (m' ≡ (view_after_turn m.0 (log x), [])) × ViewAccounted m'.0
