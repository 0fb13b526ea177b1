-- The calls of a store in memory, in the words that are the same for every store.
use Rattle.std.proofs.Common.{◌≡◌, ◌≢◌, ◌<◌, ◌≤◌, ℕ, ◌+◌, ◌==◌, ◌||◌, not, List, [], ◌∷◌, true, false, None, Some, is_some, Result, Ok, Err, IsOk, OnOk, OnErr, IfErr, refl, ap, ap₂, sym, subst, arith}
use Rattle.std.proofs.lemmas.Bool.{le-leb, lt-leb}
use Rattle.std.proofs.lemmas.Bool.Decides.{nat_tests}
use Rattle.std.specs.Result.{IsErrAnd}
use Rattle.mesh_base.specs.declared.memory.Memory as want
use Rattle.store_api.specs.Calls.{Ending, Answers, Refuses, WantsMemory, IsLost, Request, Called, IsCounted, Says, ending_of, memory_ending, to_commit, to_compact, to_grant, to_keep_alive, to_list, to_pull, to_tick}
use Rattle.store_api.specs.Contents.{Contents, after_commit, after_compact, after_grant, after_keep_alive, after_tick, dead_lease}
use Rattle.store_api.specs.History.{Begins, changes_of, live_at, revision}
use Rattle.store_api.specs.Leases.{Lease, is_live_lease}
use Rattle.store_api.specs.Meaning.{Keeps}
use Rattle.store_api.specs.declared.change.Op.{Op}
use Rattle.store_api.specs.declared.change.StoreFault.{StoreFault}
use Rattle.store_api.specs.declared.change.StoreFault.TheVariants.{Lost, Compacted, NoLease, Memory}
use Rattle.store_api.proofs.Calls.{begins_itself}
use Rattle.lease_clock.specs.Lapses.{IsNumbered}
use Rattle.memory_store.specs.Entries.{StoreLog, contents_of}
use Rattle.memory_store.specs.Stored.{Stored, history_of, leases_of, meaning_of}
use Rattle.memory_store.proofs.Calls.{found_same, with_begins}

-- a number behind the last one is no live lease's
other : (a b : ℕ) → a < b → (a == b) ≡ false
other a b lt = grind (arith, nat_tests)

at_most : (low last : ℕ) (live : List Lease) → IsNumbered low live last → low ≤ last
at_most low last [] numbered = numbered
at_most low last (x ∷ xs) numbered = omega (arith, numbered.0, at_most x.number last xs numbered.1)

none_behind : (low last n : ℕ) (live : List Lease) → last < n → IsNumbered low live last → is_live_lease live n ≡ false
none_behind low last n [] lt numbered = refl
none_behind low last n (x ∷ xs) lt numbered = ap₂ ◌||◌ (other x.number n (omega (arith, lt, at_most x.number last xs numbered.1))) (none_behind x.number last n xs lt numbered.1)

pub next_is_new : (log : StoreLog) → (let table = leases_of log in IsNumbered 0 table.live table.last) → (let table = leases_of log in not (is_live_lease table.live (table.last + 1)) ≡ true)
next_is_new log numbered = let table = leases_of log in ap not (none_behind 0 table.last (table.last + 1) table.live (omega arith) numbered)

-- a call that was not lost counts
counted : (end : Ending) (old new : Stored) → end ≢ IsLost → new.calls ≡ old.calls + 1 → IsCounted end (meaning_of old) (meaning_of new) (contents_of old.log)
counted Answers old new made calls = record { calls = calls; told = refl }
counted Refuses old new made calls = record { calls = calls; told = refl }
counted WantsMemory old new made calls = record { calls = calls; told = refl }
counted IsLost old new made calls = absurd (made refl)

ends : (request : Request) (end : Ending) (old new : Stored) → end ≢ IsLost → Begins (history_of old.log) (history_of new.log) → new.calls ≡ old.calls + 1
    → (let table = leases_of old.log in Says request end (table.last + 1) (contents_of old.log) (contents_of new.log)) → Called request end (meaning_of old) (meaning_of new)
ends request end old new made begins calls says = record {
  found = contents_of old.log;
  finds = found_same old;
  picked = let table = leases_of old.log in table.last + 1;
  says = says;
  in_order = λ _. refl;
  counts = counted end old new made calls;
  cause = λ lost. absurd (made lost);
  keeps = record { history = begins; faults = omega arith; quiet = refl; numbers = refl; writable = λ k. refl };
}

-- with no effect
same_log : (old new : Stored) → new.log ≡ old.log → Begins (history_of old.log) (history_of new.log)
same_log old new is = subst (λ (log : StoreLog). Begins (history_of old.log) (history_of log)) (sym is) (begins_itself (history_of old.log))

wants : (request : Request) (old new : Stored) → new.log ≡ old.log → new.calls ≡ old.calls + 1 → Called request WantsMemory (meaning_of old) (meaning_of new)
wants request old new is calls = ends request WantsMemory old new (λ e. cc) (same_log old new is) calls (ap contents_of is)

refused : (request : Request) (old new : Stored) → new.log ≡ old.log → new.calls ≡ old.calls + 1 → request.is_refused (contents_of old.log) ≡ true → Called request Refuses (meaning_of old) (meaning_of new)
refused request old new is calls refuses = ends request Refuses old new (λ e. cc) (same_log old new is) calls (refuses, ap contents_of is)

-- with its effect
called : (request : Request) (old new : Stored) → Begins (history_of old.log) (history_of new.log) → new.calls ≡ old.calls + 1 → request.is_refused (contents_of old.log) ≡ false
    → (let table = leases_of old.log in request.may_pick (table.last + 1) (contents_of old.log) ≡ true)
    → (let table = leases_of old.log in contents_of new.log ≡ request.effect (table.last + 1) (contents_of old.log)) → Called request Answers (meaning_of old) (meaning_of new)
called request old new begins calls serves picks effect = ends request Answers old new (λ e. cc) begins calls (record { serves = serves; picks = picks; effect = effect })

-- the history behind an effect
begins_now : (old new : StoreLog) {left : Contents} → Begins (history_of old) left.history → contents_of new ≡ left → Begins (history_of old) (history_of new)
begins_now old new begins effect = subst (λ (c : Contents). Begins (history_of old) c.history) (sym effect) begins

-- ---- each call
-- the store as it is between the steps of one call
abbrev pub stored : StoreLog → ℕ → Stored
stored log calls = record { log = log; calls = calls }

-- a call that ended for want of memory
pub wanted : (request : Request) (T : Type 0) (result : Result T StoreFault) (old new : Stored) → new.log ≡ old.log → new.calls ≡ old.calls + 1 → IsErrAnd result (λ fault. fault ≡ Memory) → Called request (ending_of T result) (meaning_of old) (meaning_of new)
wanted request T (Ok value) old new is calls memory = absurd memory
wanted request T (Err Lost) old new is calls memory = cc
wanted request T (Err (Compacted compacted)) old new is calls memory = cc
wanted request T (Err (NoLease lease)) old new is calls memory = cc
wanted request T (Err Memory) old new is calls memory = wants request old new is calls

pub list_answered : (old new : Stored) → new.log ≡ old.log → new.calls ≡ old.calls + 1 → Called to_list Answers (meaning_of old) (meaning_of new)
list_answered old new is calls = called to_list old new (same_log old new is) calls refl refl (ap contents_of is)

pub pull_answered : (from : ℕ) (old new : Stored) → new.log ≡ old.log → new.calls ≡ old.calls + 1 → (let contents = contents_of old.log in contents.compacted < from) → Called (to_pull from) Answers (meaning_of old) (meaning_of new)
pull_answered from old new is calls there = called (to_pull from) old new (same_log old new is) calls (lt-leb from (let contents = contents_of old.log in contents.compacted) there) refl (ap contents_of is)

pub pull_refused : (from : ℕ) (old new : Stored) → new.log ≡ old.log → new.calls ≡ old.calls + 1 → (let contents = contents_of old.log in from ≤ contents.compacted) → Called (to_pull from) Refuses (meaning_of old) (meaning_of new)
pull_refused from old new is calls gone = refused (to_pull from) old new is calls (le-leb from (let contents = contents_of old.log in contents.compacted) gone)

pub commit_called : (result : Result ℕ StoreFault) (old new : Stored) (ops : List Op) → OnErr result (new.log ≡ old.log) → new.calls ≡ old.calls + 1 → OnOk result (contents_of new.log ≡ after_commit ops (contents_of old.log)) → OnOk result (dead_lease (leases_of old.log) ops ≡ None)
    → ((lease : ℕ) → result ≡ Err (NoLease lease) → dead_lease (leases_of old.log) ops ≡ Some lease) → result ≢ Err Lost → ((compacted : ℕ) → result ≢ Err (Compacted compacted)) → Called (to_commit ops) (ending_of ℕ result) (meaning_of old) (meaning_of new)
commit_called (Ok number) old new ops same calls effect live dead lost compacted = called (to_commit ops) old new (begins_now old.log new.log (with_begins (history_of old.log) (changes_of (live_at (history_of old.log) (revision (history_of old.log))) ops)) effect) calls (ap is_some live) refl effect
commit_called (Err Lost) old new ops same calls effect live dead lost compacted = absurd (lost refl)
commit_called (Err (Compacted c)) old new ops same calls effect live dead lost compacted = absurd (compacted c refl)
commit_called (Err (NoLease lease)) old new ops same calls effect live dead lost compacted = refused (to_commit ops) old new same calls (ap is_some (dead lease refl))
commit_called (Err Memory) old new ops same calls effect live dead lost compacted = wants (to_commit ops) old new same calls

pub grant_called : (result : Result ℕ StoreFault) (old new : Stored) (seconds : ℕ) → OnErr result (new.log ≡ old.log) → new.calls ≡ old.calls + 1 → OnOk result (contents_of new.log ≡ after_grant seconds (contents_of old.log))
    → OnOk result (let table = leases_of old.log in not (is_live_lease table.live (table.last + 1)) ≡ true) → IfErr result (λ fault. fault ≡ Memory) → Called (to_grant seconds) (ending_of ℕ result) (meaning_of old) (meaning_of new)
grant_called (Ok number) old new seconds same calls effect fresh refusals = called (to_grant seconds) old new (begins_now old.log new.log (begins_itself (history_of old.log)) effect) calls refl fresh effect
grant_called (Err Lost) old new seconds same calls effect fresh refusals = cc
grant_called (Err (Compacted c)) old new seconds same calls effect fresh refusals = cc
grant_called (Err (NoLease lease)) old new seconds same calls effect fresh refusals = cc
grant_called (Err Memory) old new seconds same calls effect fresh refusals = wants (to_grant seconds) old new same calls

pub keep_called : (result : Result (Unit {0}) StoreFault) (old new : Stored) (lease : ℕ) → OnErr result (new.log ≡ old.log) → new.calls ≡ old.calls + 1 → OnOk result (contents_of new.log ≡ after_keep_alive lease (contents_of old.log))
    → OnOk result (let table = leases_of old.log in is_live_lease table.live lease ≡ true) → OnErr result (let table = leases_of old.log in is_live_lease table.live lease ≡ false) → IfErr result (λ fault. fault ≡ NoLease lease)
    → Called (to_keep_alive lease) (ending_of (Unit {0}) result) (meaning_of old) (meaning_of new)
keep_called (Ok nothing) old new lease same calls effect live dead refusals = called (to_keep_alive lease) old new (begins_now old.log new.log (begins_itself (history_of old.log)) effect) calls (ap not live) refl effect
keep_called (Err Lost) old new lease same calls effect live dead refusals = cc
keep_called (Err (Compacted c)) old new lease same calls effect live dead refusals = cc
keep_called (Err (NoLease named)) old new lease same calls effect live dead refusals = refused (to_keep_alive lease) old new same calls (ap not dead)
keep_called (Err Memory) old new lease same calls effect live dead refusals = cc

pub tick_called : (result : Result ℕ StoreFault) (old new : Stored) (seconds : ℕ) → OnErr result (new.log ≡ old.log) → new.calls ≡ old.calls + 1 → OnOk result (contents_of new.log ≡ after_tick seconds (contents_of old.log))
    → IfErr result (λ fault. fault ≡ Memory) → Keeps (meaning_of old) (meaning_of new) → Called (to_tick seconds) (ending_of ℕ result) (meaning_of old) (meaning_of new)
tick_called (Ok number) old new seconds same calls effect refusals keeps = called (to_tick seconds) old new keeps.history calls refl refl effect
tick_called (Err Lost) old new seconds same calls effect refusals keeps = cc
tick_called (Err (Compacted c)) old new seconds same calls effect refusals keeps = cc
tick_called (Err (NoLease lease)) old new seconds same calls effect refusals keeps = cc
tick_called (Err Memory) old new seconds same calls effect refusals keeps = wants (to_tick seconds) old new same calls

pub compact_called : (result : Result ℕ want.Memory) (old new : Stored) (upto : ℕ) → IsOk result → new.calls ≡ old.calls + 1 → OnOk result (contents_of new.log ≡ after_compact upto (contents_of old.log)) → Called (to_compact upto) (memory_ending ℕ result) (meaning_of old) (meaning_of new)
compact_called (Ok number) old new upto served calls effect =
    called (to_compact upto) old new (begins_now old.log new.log (begins_itself (history_of old.log)) effect) calls refl refl effect
compact_called (Err fault) old new upto served calls effect = cc
