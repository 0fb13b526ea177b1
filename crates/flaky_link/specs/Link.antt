-- A link to a store with planned failures, and what it does to the next call.
-- The plan is this project's own; that a failed call was applied whole or not at all is etcd's ("KV
-- API guarantees").
use Rattle.std.specs.Prelude.{ℕ, zero, suc, ◌+◌, ◌-◌, ◌^◌, ◌==◌, List, [], ◌∷◌, Bool, if◌then◌else◌}
use Rattle.store_api.specs.Meaning.{Meaning}
use Rattle.flaky_link.specs.declared.state.Fate.{Fate}
use Rattle.flaky_link.specs.declared.state.Fate.TheVariants.{Passes, FailsBefore, FailsAfter}
use Rattle.flaky_link.specs.declared.state.When.{When}
use Rattle.flaky_link.specs.declared.state.When.TheVariants.{Before, After}

-- whether it is down, the planned failures, the next one first, each with the number of calls that
-- pass before it, and how many calls it failed
pub record Link : Type 0 where
  pub down : Bool
  pub plan : List (ℕ × When)
  pub faults : ℕ

-- the failure is due at this call
abbrev pub due_now : When → Fate
due_now Before = FailsBefore
due_now After = FailsAfter

-- what the plan does to the next call
abbrev pub planned : List (ℕ × When) → Fate
planned [] = Passes
planned ((zero, when) ∷ plan) = due_now when
planned ((suc n, when) ∷ plan) = Passes

-- a link that can count no further failure
abbrev pub is_worn : Link → Bool
is_worn link = link.faults == 2 ^ 64 - 1

-- what the link does to the next call: a worn link fails none, and one that is down fails each
abbrev pub fate : Link → Fate
fate link = if is_worn link then Passes else if link.down then FailsBefore else planned link.plan

-- the plan after a call: its first failure is one call nearer, or has come
abbrev pub after_call : List (ℕ × When) → List (ℕ × When)
after_call [] = []
after_call ((zero, when) ∷ plan) = plan
after_call ((suc n, when) ∷ plan) = (n, when) ∷ plan

-- the link after a call that passed
abbrev pub passed : Link → Link
passed link = if is_worn link then link else record link { plan = after_call link.plan }

-- the link after a call that it failed: one that is down keeps its plan
abbrev pub failed : Link → Link
failed link = record link { plan = (if link.down then link.plan else after_call link.plan); faults = link.faults + 1 }

-- what the store behind the link means to the caller: its faults are the store's and the link's
abbrev pub linked : Link → Meaning → Meaning
linked link store = record store { faults = link.faults + store.faults }

-- the link as a call meets it: a failure after the call is not yet counted
abbrev pub met : Fate → Link → Link
met Passes link = passed link
met FailsBefore link = failed link
met FailsAfter link = link

-- the references that a link holds: to its state, to its store, and those of that store
abbrev pub loans_of : ℕ → ℕ → List ℕ → List ℕ
loans_of state store loans = state ∷ store ∷ loans
