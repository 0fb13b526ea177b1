-- Logs whose entries have owners, and accounts of what each owner wrote.
use Rattle.std.specs.Prelude.{◌≡◌, ℕ, ◌+◌, ◌==◌, List, [], ◌∷◌, ◌++◌, length, drop, filter, if◌then◌else◌, cond, leb}

-- a list of entries, each with the number of its owner, the oldest first
abbrev pub Log : Type 0 → Type 0
Log E = List (ℕ × E)

-- an owner's number, with the entries that it owns
abbrev pub Account : Type 0 → Type 0
Account E = ℕ × Log E

-- the first list begins the second
abbrev pub Begins : {A : Type 0} → List A → List A → Type 0
Begins {A} xs ys = (rest : List A) × (ys ≡ xs ++ rest)

-- what a log has behind the opening that begins it
abbrev pub after : {A : Type 0} → List A → List A → List A
after opening log = drop (length opening) log

-- the longer of two lists
abbrev pub longer : {A : Type 0} → List A → List A → List A
longer xs ys = cond (leb (length xs) (length ys)) ys xs

-- every element has the property
abbrev pub Each : {A : Type 0} → (A → Type 0) → List A → Type 0
Each P [] = Unit {0}
Each P (x ∷ xs) = P x × Each P xs

module _ {E : Type 0} where
  -- the entries of one owner, in their order
  abbrev pub entries_of : ℕ → Log E → Log E
  entries_of n log = filter (λ e. e.0 == n) log

  -- every entry has this owner
  abbrev pub AllOwnedBy : ℕ → Log E → Type 0
  AllOwnedBy n log = Each (λ e. e.0 ≡ n) log

  -- the second log is the first and then entries of this owner
  abbrev pub AddsOwn : ℕ → Log E → Log E → Type 0
  AddsOwn n found left = (added : Log E) × (left ≡ found ++ added) × AllOwnedBy n added

  -- each account has exactly the entries of its number
  abbrev pub AreExact : Log E → List (Account E) → Type 0
  AreExact log accounts = Each (λ a. a.1 ≡ entries_of a.0 log) accounts

  -- the first account has these entries too
  abbrev pub grown : Log E → List (Account E) → List (Account E)
  grown es [] = []
  grown es (a ∷ others) = (a.0, a.1 ++ es) ∷ others

-- 1 where the numbers agree, else 0
abbrev pub one_if : ℕ → ℕ → ℕ
one_if n m = if n == m then 1 else 0

-- how often a number has an account
abbrev pub account_count : {E : Type 0} → ℕ → List (Account E) → ℕ
account_count n [] = 0
account_count n (a ∷ rest) = one_if n a.0 + account_count n rest

-- f of each element, added up
abbrev pub total : {A : Type 0} → (A → ℕ) → List A → ℕ
total f [] = 0
total f (x ∷ xs) = f x + total f xs
