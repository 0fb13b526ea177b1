-- What contracts see of a cell and of a pass.
use Rattle.std.specs.Prelude.{◌≡◌, ℕ, ◌+◌, Bool, true, false, List, [], ◌∷◌, ◌++◌, length, Option}
use Rattle.atomic_table.specs.Seated.{TableId}
use Rattle.turn_cell.specs.Logs.{Log, Account, Begins, Each, after, longer, AreExact, account_count}

-- which cell it is, with the log and the fixed part (always `Some`) of the value that it was made with
pub record Cell (E F : Type 0) : Type 0 where
  pub table : TableId
  pub opening : Log E
  pub fixed : Option F

-- what a pass knows
pub record Knowledge (E F : Type 0) : Type 0 where
  -- the cell that it belongs to
  pub cell : Cell E F
  -- its number, by which its entries are owned
  pub number : ℕ
  -- whether it has the value out
  pub inside : Bool
  -- the log that it has seen
  pub seen : Log E
  -- its own entries since the cell was made
  pub own : Log E
  -- the passes that it took in, each with its entries
  pub gathered : List (Account E)
  -- how many numbers it has drawn for new passes
  pub drawn : ℕ
  -- how many turns it has made
  pub turns : ℕ
  -- each turn's log as it was found and as it was left, the oldest turn first
  pub trace : List (Log E × Log E)

-- the lengths of the logs that the turns found
abbrev pub found_lengths : {E : Type 0} → List (Log E × Log E) → List ℕ
found_lengths [] = []
found_lengths (turn ∷ turns) = length turn.0 ∷ found_lengths turns

module _ {E : Type 0} where
  -- what the turns added to the logs that they found, in their order
  abbrev pub added_in : List (Log E × Log E) → Log E
  added_in [] = []
  added_in (turn ∷ turns) = after turn.0 turn.1 ++ added_in turns

  -- the log that the first of these turns found; with no turn, the log seen now
  abbrev pub found_next : List (Log E × Log E) → Log E → Log E
  found_next [] now = now
  found_next (turn ∷ turns) now = turn.0

  -- each turn left a log that begins with the one found, and the next turn found a log that begins with the one left; the log seen now begins with the last one left
  abbrev pub AreInTurn : List (Log E × Log E) → Log E → Type 0
  AreInTurn [] now = Unit {0}
  AreInTurn (turn ∷ turns) now = Begins turn.0 turn.1 × Begins turn.1 (found_next turns now) × AreInTurn turns now

module _ {E F : Type 0} where
  -- the pass is one of this cell
  abbrev pub IsPassOf : Cell E F → Knowledge E F → Type 0
  IsPassOf c p = p.cell ≡ c

  -- the pass and all that it took in, each with its entries
  abbrev pub accounts_of : Knowledge E F → List (Account E)
  accounts_of p = (p.number, p.own) ∷ p.gathered

  -- The log seen begins with the cell's opening, and behind it the entries of each account's number are exactly those of the account
  abbrev pub IsAccounted : Knowledge E F → Type 0
  IsAccounted p = Begins p.cell.opening p.seen × AreExact (after p.cell.opening p.seen) (accounts_of p)

  -- The pass's own entries are exactly those that its turns added, in their order, the turns follow one another, and all of them are counted
  pub record IsTraced (p : Knowledge E F) : Type 0 where
    pub own : p.own ≡ added_in p.trace
    pub in_turn : AreInTurn p.trace p.seen
    pub counted : p.turns ≡ length p.trace

  -- the pass that a new cell comes with
  abbrev pub first_pass : Cell E F → Knowledge E F
  first_pass c = record { cell = c; number = 1; inside = false; seen = c.opening; own = []; gathered = []; drawn = 0; turns = 0; trace = [] }

  -- the first pass has drawn one number more
  abbrev pub after_split : Knowledge E F → Knowledge E F
  after_split p = record p { drawn = p.drawn + 1 }

  -- the pass that gets that number: it has seen as much, and done nothing
  abbrev pub split_off : Knowledge E F → Knowledge E F
  split_off p = record { cell = p.cell; number = p.drawn + 2; inside = false; seen = p.seen; own = []; gathered = []; drawn = 0; turns = 0; trace = [] }

  -- the pass has taken in the other: the longer of the two logs, and the other's accounts
  abbrev pub after_join : Knowledge E F → Knowledge E F → Knowledge E F
  after_join p other = record p { seen = longer p.seen other.seen; gathered = p.gathered ++ accounts_of other }

  -- inside, with the log found
  abbrev pub after_enter : Knowledge E F → Log E → Knowledge E F
  after_enter p found = record p { inside = true; seen = found }

  -- outside again: what was added to the log seen is its own, and the turn is counted
  abbrev pub after_turn : Knowledge E F → Log E → Knowledge E F
  after_turn p left = record p { inside = false; seen = left; own = p.own ++ after p.seen left; turns = p.turns + 1; trace = p.trace ++ (p.seen, left) ∷ [] }

  -- every number that was given has one account here, and every entry behind the opening is of such a number
  abbrev pub HasAll : Knowledge E F → Log E → Type 0
  HasAll p log = Each (λ e. account_count e.0 (accounts_of p) ≡ 1) (after p.cell.opening log)
