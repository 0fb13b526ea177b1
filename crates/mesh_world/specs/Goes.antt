-- That the calls on stores went the way that a world says.
use Rattle.std.specs.Prelude.{◌≡◌, ℕ, ◌+◌, ◌≤◌, ◌==◌, List, [], ◌∷◌, ◌++◌, map, length, if◌then◌else◌, slice_index, true, All}
use Rattle.store_api.specs.Contents.{empty_contents}
use Rattle.store_api.specs.Meaning.{Meaning}
use Rattle.mesh_world.specs.World.{World}
use Rattle.mesh_world.specs.Asking.{Outcome, Made, LostBefore, LostAfter, Next, Step, done}

-- nobody else writes, and every key may be written
pub record IsOpen (m : Meaning) : Type 0 where
  pub quiet : m.quiet ≡ true
  pub writable : (k : List ℕ) → m.writable k ≡ true

-- nothing is held, no call failed, and none was made
pub record IsFresh (m : Meaning) : Type 0 where
  pub contents : m.contents ≡ empty_contents
  pub faults : m.faults ≡ 0
  pub calls : m.calls ≡ 0

-- how often the place stands in the list
abbrev pub occurrences : ℕ → List ℕ → ℕ
occurrences i [] = 0
occurrences i (j ∷ places) = (if j == i then 1 else 0) + occurrences i places

abbrev pub faults_at : List Meaning → ℕ → ℕ
faults_at stores i = slice_index (map (λ (m : Meaning). m.faults) stores) i

abbrev pub calls_at : List Meaning → ℕ → ℕ
calls_at stores i = slice_index (map (λ (m : Meaning). m.calls) stores) i

-- For each store: no more calls were lost than its count of faults rose, and its count of calls rose by no
-- more than there are outcomes.
pub record Tallies (old new : World) (before after : List Meaning) : Type 0 where
  pub lost : (i : ℕ) → occurrences i new.lost + faults_at before i ≤ occurrences i old.lost + faults_at after i
  pub asked : (i : ℕ) → calls_at after i + occurrences i old.asked ≤ calls_at before i + occurrences i new.asked

-- how many of the calls were lost
abbrev pub losses : List Outcome → ℕ
losses [] = 0
losses (Made number ∷ more) = losses more
losses (LostBefore ∷ more) = 1 + losses more
losses (LostAfter number ∷ more) = 1 + losses more

-- the stores number leases in turn
abbrev pub NumberInTurn : List Meaning → Type 0
NumberInTurn stores = All (λ (m : Meaning). m.numbers ≡ true) stores

-- each number is the one after the last
abbrev pub AreNext : List Outcome → Type 0
AreNext [] = Unit {0}
AreNext (Made number ∷ more) = (number ≡ Next) × AreNext more
AreNext (LostBefore ∷ more) = AreNext more
AreNext (LostAfter number ∷ more) = (number ≡ Next) × AreNext more

-- With some outcomes, all of them used, what `does` does from the old world is what `rest` does from the
-- new one, whatever outcomes follow; the stores have the new world's contents, the calls tally, and stores
-- that number leases in turn picked no other numbers.
pub record Goes {X : Type 0} (does rest : Step X) (old : World) (before after : List Meaning) (Shows : World → Type 0) : Type 0 where
  pub used : List Outcome
  pub new : World
  pub goes : (more : List Outcome) → does old (used ++ more) ≡ rest new more
  pub stores : new.stores ≡ map (λ (m : Meaning). m.contents) after
  pub lost : length new.lost ≡ losses used + length old.lost
  pub asked : length new.asked ≡ length used + length old.asked
  pub tallies : Tallies old new before after
  pub in_turn : NumberInTurn before → AreNext used × NumberInTurn after
  pub shows : Shows new

-- there are outcomes, all of them used, with which this leads from the old world to one that shows this
abbrev pub Leads : Step (World × List Outcome) → World → List Meaning → List Meaning → (World → Type 0) → Type 0
Leads does old before after Shows = Goes does done old before after Shows
