-- The rule of the cell's table: what holds between any two steps.
-- Word 0 is the next ticket to be drawn, word 1 the ticket served, word 2 the next number of a pass. Both tickets go round at 2^64. The slot holds the value, or nothing while the value is out with a pass.
use Rattle.std.specs.Prelude.{◌≡◌, ℕ, ◌+◌, ◌%◌, ◌<◌, ◌≤◌, List, [], ◌∷◌, ◌++◌, length, true, Option, Some, IfSome}
use mathlib.Core.Option.{some, none}
use mathlib.Core.Option as maybe
use lib.ListN.{get_elem?}
use Rattle.atomic_table.specs.Table.{State}
use Rattle.turn_cell.specs.declared.view.View.{View}
use Rattle.turn_cell.specs.declared.view.Stage.{Stage}
use Rattle.turn_cell.specs.declared.view.Stage.TheVariants.{Outside, Waiting, Inside}
use Rattle.turn_cell.specs.Logs.{Log, Account, Begins, Each, after, AreExact, account_count, total}

-- the ticket that a view holds
abbrev pub ticket : Stage → maybe.Option ℕ
ticket Outside = none
ticket (Waiting t) = some t
ticket (Inside t) = some t

-- how many tickets a view holds
abbrev pub tickets : Stage → ℕ
tickets Outside = 0
tickets (Waiting t) = 1
tickets (Inside t) = 1

module _ {E F : Type 0} where
  -- a view's accounts, and the number that it keeps for a split
  abbrev pub held_accounts : View E F → List (Account E)
  held_accounts v = v.accounts ++ v.spare

  -- how many tickets all views hold
  abbrev pub ticket_count : List (View E F) → ℕ
  ticket_count vs = total (λ v. tickets v.stage) vs

  -- how many accounts a number has in all views
  abbrev pub owner_count : ℕ → List (View E F) → ℕ
  owner_count n vs = total (λ v. account_count n (held_accounts v)) vs

module _ {T E F : Type 0} (log : T → Log E) (fixed : T → F) (x0 : T) where
  -- the entries since the cell was made
  abbrev pub since : Log E → Log E
  since now = after (log x0) now

  -- the slot: away with the view that is inside, or at home with the value
  abbrev pub SlotHolds : List (View E F) → Log E → maybe.Option (Option T) → Type 0
  SlotHolds vs now none = (j : ℕ) × (v : View E F) × (t : ℕ) × (get_elem? vs j ≡ some v) × (v.stage ≡ Inside t)
  SlotHolds vs now (some y) = (x : T) × (y ≡ Some x) × (log x ≡ now) × (fixed x ≡ fixed x0)

  module _ (drawn served given crowd : ℕ) (now : Log E) (home : maybe.Option (Option T)) where
    -- a ticket held is drawn and not yet served; who is inside holds the ticket served, has seen all, and has the slot
    abbrev pub AtStage : View E F → Stage → Type 0
    AtStage v Outside = Unit {0}
    AtStage v (Waiting t) = (served ≤ t) × (t < drawn) × (0 < length v.accounts)
    AtStage v (Inside t) = (t ≡ served) × (t < drawn) × (v.seen ≡ now) × (home ≡ none) × (0 < length v.accounts)

    -- what holds of the view of the seat j
    pub record Fits (j : ℕ) (v : View E F) : Type 0 where
      pub stage : AtStage v v.stage
      pub seen : Begins v.seen now
      pub joining : Each (λ l. Begins l v.seen) v.joining
      pub accounts : AreExact (since now) (held_accounts v)
      pub fixed_is : IfSome v.fixed (λ f. (f ≡ fixed x0) × (v.opening ≡ log x0))
      pub known : AreExact (since v.seen) (held_accounts v)
      pub began : IfSome v.fixed (λ _. Begins (log x0) v.seen)
      pub first : v.first ≡ true → j ≡ 0
      pub leads : j ≡ 0 → (v.first ≡ true) × (given ≡ v.drawn + 2) × (crowd + length v.spare ≡ v.drawn + 1)

  pub record TurnRule (s : State (Option T) (View E F)) : Type 0 where
    -- the next ticket, the ticket served and the next number, and the log in force
    pub drawn : ℕ
    pub served : ℕ
    pub given : ℕ
    pub now : Log E
    -- what the slot holds, or none where it is away with a view
    pub home : maybe.Option (Option T)
    pub words_are : s.words ≡ drawn % 18446744073709551616 ∷ served % 18446744073709551616 ∷ given ∷ []
    pub homes_are : s.homes ≡ home ∷ []
    pub lies : SlotHolds s.views now home
    -- as many tickets are held as were drawn and not served
    pub counted : served + ticket_count s.views ≡ drawn
    -- so fewer than 2^32 numbers are given, and fewer than 2^64 tickets are out
    pub few : given ≤ 4294967296
    pub starts : Begins (log x0) now
    pub each : (j : ℕ) (v : View E F) → get_elem? s.views j ≡ some v → Fits drawn served given (length s.views) now home j v
    -- two views with one ticket are one
    pub one_ticket : (j k : ℕ) (v w : View E F) (t : ℕ) → get_elem? s.views j ≡ some v → get_elem? s.views k ≡ some w → ticket v.stage ≡ some t → ticket w.stage ≡ some t → j ≡ k
    -- each number given has one account in all, and no other number has one
    pub one_owner : (n : ℕ) → 0 < n → n < given → owner_count n s.views ≡ 1
    pub no_owner : (n : ℕ) → given ≤ n → owner_count n s.views ≡ 0
    pub zero_owner : owner_count 0 s.views ≡ 0
    -- no entry since the start has a number that was not given
    pub by_owner : Each (λ e. (0 < e.0) × (e.0 < given)) (since now)
    pub crowd : length s.views < given

  -- the view of the first seat
  abbrev pub first_view : View E F
  first_view = record { stage = Outside; seen = log x0; accounts = (1, []) ∷ []; spare = []; joining = []; turns = 0; trace = []; drawn = 0; first = true; opening = log x0; fixed = Some (fixed x0) }
