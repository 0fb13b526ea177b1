-- A call on a store, straight or through a link, talks of several calls, and how a run goes on with what
-- is heard of each.
-- Source: etcd, "KV API guarantees" (a call that fails at the client may or may not have been applied),
-- and its API, Lease service (the server picks a lease's number where the client names none).
use Rattle.std.specs.Prelude.{ℕ, ◌+◌, List, [], ◌∷◌, if◌then◌else◌}
use Rattle.store_api.specs.Contents.{Contents}
use Rattle.store_api.specs.Calls.{Request, Heard, Answered, Refused, Missed, Talk, Ends, Asks}
use Rattle.flaky_link.specs.Link.{Link, fate, failed, passed}
use Rattle.flaky_link.specs.declared.state.Fate.{Fate}
use Rattle.flaky_link.specs.declared.state.Fate.TheVariants.{Passes, FailsBefore, FailsAfter}
use Rattle.scenario_lang.specs.declared.scenario.LinkName.{LinkName}
use Rattle.mesh_world.specs.World.{World, contents_at, remote_at, store_of, link_of, with_link, at_store, at_remote}

-- the number that a store picks for a lease: the one after the last, or another
pub data Number : Type 0 where
  Next : Number
  Given : ℕ → Number

abbrev pub number_over : Number → Contents → ℕ
number_over Next c = c.leases.last + 1
number_over (Given n) c = n

-- what became of one call on a store: it was made, or it was lost with no effect or with its whole
-- effect; where it is a grant, with the lease's number
pub data Outcome : Type 0 where
  Made : Number → Outcome
  LostBefore : Outcome
  LostAfter : Number → Outcome

-- what is done from a world on, by the outcomes of the calls to come
abbrev pub Step : Type 0 → Type 0
Step X = World → List Outcome → X

-- nothing more is done: the world, and the outcomes that are left
abbrev pub done : Step (World × List Outcome)
done w outcomes = (w, outcomes)

-- what a store has after a call that it makes or refuses, and what is heard of it; a call that it refuses
-- has no effect
abbrev pub made_of : Request → Number → Contents → Contents
made_of request number c = if request.is_refused c then c else request.effect (number_over number c) c

abbrev pub answer_of : Request → Number → Contents → Heard
answer_of request number c = if request.is_refused c then Refused c else Answered (request.effect (number_over number c) c)

-- a call on the store at the place is counted
abbrev pub counted : ℕ → World → World
counted place w = record w { asked = place ∷ w.asked }

abbrev pub counted_lost : ℕ → World → World
counted_lost place w = record w { asked = place ∷ w.asked; lost = place ∷ w.lost }

-- A call on the store at the place takes the first outcome, and past the end of the outcomes every
-- call is made; `next` goes on with what is heard of it.
abbrev pub ask : {X : Type 0} → ℕ → Request → (Heard → Step X) → Step X
ask place request next w [] = next (answer_of request Next (contents_at w place)) (at_store place (made_of request Next) w) []
ask place request next w (Made number ∷ more) = next (answer_of request number (contents_at w place)) (counted place (at_store place (made_of request number) w)) more
ask place request next w (LostBefore ∷ more) = next Missed (counted_lost place w) more
ask place request next w (LostAfter number ∷ more) = next Missed (counted_lost place (at_store place (made_of request number) w)) more

-- a call that no store loses or refuses takes an outcome too, and is made whatever that says
abbrev pub ask_surely : ℕ → Request → Step (World × List Outcome)
ask_surely place request w [] = done (at_store place (made_of request Next) w) []
ask_surely place request w (outcome ∷ more) = done (counted place (at_store place (made_of request Next) w)) more

-- the link to the remote's store is changed
abbrev pub at_link : LinkName → ℕ → (Link → Link) → World → World
at_link link remote change w = at_remote remote (with_link link change) w

abbrev pub ask_by : {X : Type 0} → Fate → LinkName → ℕ → Request → (Heard → Step X) → Step X
ask_by Passes link remote request next w outcomes = ask (store_of remote) request next (at_link link remote passed w) outcomes
ask_by FailsBefore link remote request next w outcomes = next Missed (at_link link remote failed w) outcomes
ask_by FailsAfter link remote request next w outcomes = ask (store_of remote) request (λ heard. next Missed) (at_link link remote failed w) outcomes

-- A call on the remote's store through a link: the link lets it pass, or does not let it reach the
-- store, or loses the store's answer.
abbrev pub ask_through : {X : Type 0} → LinkName → ℕ → Request → (Heard → Step X) → Step X
ask_through link remote request next w outcomes = ask_by (fate (link_of link (remote_at w remote))) link remote request next w outcomes

-- A talk with the remote's store over a link: each call by the next outcome, and `rest` goes on with what
-- comes of them.
abbrev pub play : {X Y : Type 0} → LinkName → ℕ → Talk (Unit {0}) X → (X → Step Y) → Step Y
play link remote (Ends came) rest w outcomes = rest came w outcomes
play link remote (Asks way request next) rest w outcomes = ask_through link remote request (λ heard. play link remote (next heard) rest) w outcomes
