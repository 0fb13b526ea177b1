-- Calls of a store: what is asked of it, how that ends, and what one call and several in a row do to
-- what the store means. A caller is told of these words alone, whether the store is right before it,
-- behind a link, or one that loses calls of its own.
-- Source: etcd, "KV API guarantees" (a failed call was applied whole or not at all) and its API, KV
-- service (Range, Txn, Compact), Watch service and Lease service. The form is this project's own.
use Rattle.std.specs.Prelude.{◌≡◌, ◌<◌, ◌+◌, ◌⊎◌, ℕ, leb, not, Bool, true, false, is_some, List, Result, Ok, Err}
use Rattle.mesh_base.specs.declared.memory.Memory as want
use Rattle.store_api.specs.Contents.{Contents, after_commit, after_compact, after_keep_alive, after_tick, dead_lease}
use Rattle.store_api.specs.Leases.{granted_as, is_live_lease}
use Rattle.store_api.specs.Meaning.{Meaning, Counts, CountsNot, Finds, Keeps}
use Rattle.store_api.specs.declared.change.Op.{Op}
use Rattle.store_api.specs.declared.change.StoreFault.{StoreFault}
use Rattle.store_api.specs.declared.change.StoreFault.TheVariants.{Lost, Compacted, NoLease, Memory}

-- how a call ended: with an answer, with a refusal, for want of memory, or lost
pub data Ending : Type 0 where
  Answers : Ending
  Refuses : Ending
  WantsMemory : Ending
  IsLost : Ending

abbrev pub ending_of : (T : Type 0) → Result T StoreFault → Ending
ending_of T (Ok value) = Answers
ending_of T (Err Lost) = IsLost
ending_of T (Err (Compacted compacted)) = Refuses
ending_of T (Err (NoLease lease)) = Refuses
ending_of T (Err Memory) = WantsMemory

-- how a call ended that is never lost and never refused
abbrev pub memory_ending : (T : Type 0) → Result T want.Memory → Ending
memory_ending T (Ok value) = Answers
memory_ending T (Err fault) = WantsMemory

-- what is asked of a store: its effect with the number that the store picks, whether a store refuses
-- it over these contents, and whether it may pick this number over them
pub record Request : Type 0 where
  pub effect : ℕ → Contents → Contents
  pub is_refused : Contents → Bool
  pub may_pick : ℕ → Contents → Bool

-- a request that is never refused, and whose effect is of no number
abbrev pub plain : (Contents → Contents) → Request
plain effect = record { effect = λ n. effect; is_refused = λ c. false; may_pick = λ n c. true }

abbrev pub to_list : Request
to_list = plain (λ c. c)

abbrev pub to_pull : ℕ → Request
to_pull from = record { effect = λ n c. c; is_refused = λ c. leb from c.compacted; may_pick = λ n c. true }

abbrev pub to_commit : List Op → Request
to_commit ops = record { effect = λ n. after_commit ops; is_refused = λ c. is_some (dead_lease c.leases ops); may_pick = λ n c. true }

-- the store picks the lease's number, and none that is live
abbrev pub to_grant : ℕ → Request
to_grant seconds = record {
  effect = λ n c. record c { leases = granted_as n seconds c.leases };
  is_refused = λ c. false;
  may_pick = λ n c. not (is_live_lease c.leases.live n);
}

abbrev pub to_keep_alive : ℕ → Request
to_keep_alive lease = record {
  effect = λ n. after_keep_alive lease;
  is_refused = λ c. not (is_live_lease c.leases.live lease);
  may_pick = λ n c. true;
}

abbrev pub to_tick : ℕ → Request
to_tick seconds = plain (after_tick seconds)

abbrev pub to_compact : ℕ → Request
to_compact upto = plain (after_compact upto)

-- the effect of a request on a store whose leases are numbered in turn
abbrev pub in_turn : Request → Contents → Contents
in_turn request c = request.effect (c.leases.last + 1) c

-- the request, with the number that was picked, is served over the contents that are found
pub record IsServed (request : Request) (number : ℕ) (found left : Contents) : Type 0 where
  pub serves : request.is_refused found ≡ false
  pub picks : request.may_pick number found ≡ true
  pub effect : left ≡ request.effect number found

-- what an end says of the contents that were found and left: an answered request was served, one that
-- was refused or wanted memory has no effect, and a lost one was served or has none
abbrev pub Says : Request → Ending → ℕ → Contents → Contents → Type 0
Says request Answers number found left = IsServed request number found left
Says request Refuses number found left = (request.is_refused found ≡ true) × (left ≡ found)
Says request WantsMemory number found left = left ≡ found
Says request IsLost number found left = (left ≡ found) ⊎ IsServed request number found left

-- the call counts, and one that was lost perhaps not
abbrev pub IsCounted : Ending → Meaning → Meaning → Contents → Type 0
IsCounted Answers old new found = Counts old new (record { found = found; left = new.contents })
IsCounted Refuses old new found = Counts old new (record { found = found; left = new.contents })
IsCounted WantsMemory old new found = Counts old new (record { found = found; left = new.contents })
IsCounted IsLost old new found = Counts old new (record { found = found; left = new.contents }) ⊎ CountsNot old new

-- one call of a store that ended so
pub record Called (request : Request) (end : Ending) (old new : Meaning) : Type 0 where
  pub found : Contents
  pub finds : Finds old found
  pub picked : ℕ
  pub says : Says request end picked found new.contents
  pub in_order : old.numbers ≡ true → picked ≡ found.leases.last + 1
  pub counts : IsCounted end old new found
  pub cause : end ≡ IsLost → old.faults < new.faults
  pub keeps : Keeps old new

-- one call of a store V, with what lies between the caller and the store behind it
pub record Crosses {V : Type 0} (meaning : V → Meaning) (between : V → V → Request → Ending → Type 0) (request : Request) (end : Ending) (old new : V) : Type 0 where
  pub crossed : between old new request end
  pub called : Called request end (meaning old) (meaning new)

-- what a caller hears: the contents behind an answer or a refusal, or nothing where the call was lost
pub data Heard : Type 0 where
  Answered : Contents → Heard
  Refused : Contents → Heard
  Missed : Heard

-- what is heard of an end; a caller that wanted memory says nothing
abbrev pub Hears : Ending → Contents → Heard → Type 0
Hears Answers left heard = heard ≡ Answered left
Hears Refuses left heard = heard ≡ Refused left
Hears WantsMemory left heard = ⊥
Hears IsLost left heard = heard ≡ Missed

-- one call, of which this is heard
pub record HeardOf {V : Type 0} (meaning : V → Meaning) (between : V → V → Request → Ending → Type 0) (request : Request) (old new : V) (heard : Heard) : Type 0 where
  pub end : Ending
  pub call : Crosses meaning between request end old new
  pub hears : Hears end (meaning new).contents heard

-- calls in a row, each asked over one of the ways W, as what was heard of those before it decides,
-- and what comes of them
pub data Talk (W X : Type 0) : Type 0 where
  Ends : X → Talk W X
  Asks : W → Request → (Heard → Talk W X) → Talk W X

-- the calls of a talk were made, and this came of them
abbrev pub Talked : {W X V : Type 0} → (W → Request → V → V → Heard → Type 0) → Talk W X → V → V → X → Type 0
Talked calls (Ends y) old new x = (new ≡ old) × (x ≡ y)
Talked {W} {X} {V} calls (Asks way request next) old new x = (heard : Heard) × (mid : V) × calls way request old mid heard × Talked calls (next heard) mid new x

-- the calls of a talk on one store
abbrev pub on_store : {W V : Type 0} → (V → Meaning) → (V → V → Request → Ending → Type 0) → W → Request → V → V → Heard → Type 0
on_store meaning between way request old new heard = HeardOf meaning between request old new heard

-- a talk comes to what is left of it: calls made so far lead from the old store to one between
pub record Comes {W X V : Type 0} (calls : W → Request → V → V → Heard → Type 0) (talk : Talk W X) (old : V) (rest : Talk W X) (mid : V) : Type 0 where
  pub on : (new : V) (x : X) → Talked calls rest mid new x → Talked calls talk old new x
