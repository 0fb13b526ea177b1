-- The part of a history that a reader follows.
-- Source: etcd's API, Watch service (a watch is over ranges of keys).
use Rattle.std.specs.Prelude.{ℕ, zero, suc, leb, List, [], ◌∷◌, ◌++◌, filter, ◌||◌, Bool, false, if◌then◌else◌, None}
use Rattle.mesh_base.specs.Order.{same_bytes}
use Rattle.store_api.specs.History.{History, Pairs, live_at, changes_at}
use Rattle.store_api.specs.declared.change.Change.{Change}
use Rattle.store_api.specs.declared.change.Change.TheVariants as change
use Rattle.store_api.specs.declared.change.Revision.{Revision}

-- the keys that a reader follows, and when their pairs count as synced
pub record Followed : Type 0 where
  pub inside : List ℕ → Bool
  pub synced : Pairs → Bool

-- the followed pairs that are live at revision r
abbrev pub in_at : Followed → History → ℕ → Pairs
in_at f history r k = if f.inside k then live_at history r k else None

abbrev pub changed_key : Change → List ℕ
changed_key (change.Put key value lease) = key
changed_key (change.Delete key) = key

-- one of the changes is of the key
abbrev pub touches : List ℕ → List Change → Bool
touches k [] = false
touches k (c ∷ changes) = same_bytes (changed_key c) k || touches k changes

-- what a revision changed of some keys
pub record Part : Type 0 where
  pub number : ℕ
  pub changes : List Change

-- a revision as it is delivered, whoever made it
abbrev pub part_of : Revision → Part
part_of r = record { number = r.number; changes = r.changes }

-- the changes of these keys at revision x, in order
abbrev pub part_at : (List ℕ → Bool) → History → ℕ → List Change
part_at inside history x = filter (λ (c : Change). inside (changed_key c)) (changes_at history x)

abbrev pub one_part : ℕ → List Change → List Part
one_part x [] = []
one_part x (c ∷ changes) = record { number = x; changes = c ∷ changes } ∷ []

-- the revisions above a and up to r that change one of these keys, oldest first, with these changes
-- alone
abbrev pub parts : (List ℕ → Bool) → History → ℕ → ℕ → List Part
parts inside history a zero = []
parts inside history a (suc r) = if leb (suc r) a then [] else parts inside history a r ++ one_part (suc r) (part_at inside history (suc r))
