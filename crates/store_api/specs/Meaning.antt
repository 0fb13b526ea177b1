-- What a store means to its callers, and what a call does to that.
-- Source: etcd, "KV API guarantees" (a failed call was applied whole or not at all).
use Rattle.std.specs.Prelude.{◌≡◌, ℕ, ◌+◌, ◌≤◌, ◌<◌, List, [], ◌∷◌, ◌++◌, Bool, true, Option, None, Some, ◌⊎◌}
use Rattle.store_api.specs.History.{Begins}
use Rattle.store_api.specs.Contents.{Contents}

-- one call: the contents that it found, and those that it left
pub record Call : Type 0 where
  pub found : Contents
  pub left : Contents

-- the contents, how often calls failed and were made, the calls where the store tells them,
-- whether nobody else writes, whether each lease is granted with the number after the last, and the
-- keys that may be written
pub record Meaning : Type 0 where
  pub contents : Contents
  pub faults : ℕ
  pub calls : ℕ
  pub told : Option (List Call)
  pub quiet : Bool
  pub numbers : Bool
  pub writable : List ℕ → Bool

-- a call finds the contents as they were, or later ones where others write too
pub record Finds (old : Meaning) (found : Contents) : Type 0 where
  pub later : Begins old.contents.history found.history
  pub compacted : old.contents.compacted ≤ found.compacted
  pub alone : old.quiet ≡ true → found ≡ old.contents

-- one call more, where calls are told
abbrev pub noted : Option (List Call) → Call → Option (List Call)
noted None call = None
noted (Some calls) call = Some (calls ++ call ∷ [])

-- the call counts, and is told
pub record Counts (old new : Meaning) (call : Call) : Type 0 where
  pub calls : new.calls ≡ old.calls + 1
  pub told : new.told ≡ noted old.told call

-- the call does not count
pub record CountsNot (old new : Meaning) : Type 0 where
  pub calls : new.calls ≡ old.calls
  pub told : new.told ≡ old.told

-- the call had this effect on what it found, and counts
pub record Makes (old new : Meaning) (effect : Contents → Contents) : Type 0 where
  pub found : Contents
  pub finds : Finds old found
  pub left : new.contents ≡ effect found
  pub counts : Counts old new (record { found = found; left = new.contents })

-- the call was lost, with this effect in whole or not at all, and counts or not
pub record MayMake (old new : Meaning) (effect : Contents → Contents) : Type 0 where
  pub found : Contents
  pub finds : Finds old found
  pub whole : (new.contents ≡ found) ⊎ (new.contents ≡ effect found)
  pub counts : Counts old new (record { found = found; left = new.contents }) ⊎ CountsNot old new
  pub cause : old.faults < new.faults

-- what every call keeps
pub record Keeps (old new : Meaning) : Type 0 where
  pub history : Begins old.contents.history new.contents.history
  pub faults : old.faults ≤ new.faults
  pub quiet : new.quiet ≡ old.quiet
  pub numbers : new.numbers ≡ old.numbers
  pub writable : (k : List ℕ) → new.writable k ≡ old.writable k
