-- What the calls of a store in memory do to its log and its meaning.
use Rattle.std.proofs.Common.{◌≡◌, ℕ, ◌+◌, ◌==◌, List, [], ◌∷◌, ◌++◌, map, Bool, true, false, cond, ◌||◌, Result, Ok, Err, OnOk, OnErr, refl, ap, ap₂, sym, ◌∙◌, subst, append_assoc, arith}
use Rattle.std.proofs.lemmas.List.{append-nil}
use Rattle.store_api.specs.Attached.{all_lapsed, attached_keys, deletions, lapsed}
use Rattle.store_api.specs.History.{Begins, History, with_revision}
use Rattle.store_api.specs.Contents.{Contents, empty_contents, after_commit, after_keep_alive, after_tick}
use Rattle.store_api.specs.Leases.{Lease, advanced, deadline_at, due_leases, is_live_lease, kept_alive}
use Rattle.store_api.specs.Meaning.{Finds, Keeps, Makes}
use Rattle.store_api.specs.declared.change.Change.{Change}
use Rattle.store_api.specs.declared.change.Op.{Op}
use Rattle.memory_store.specs.declared.entry.StoreEntry.{StoreEntry}
use Rattle.memory_store.specs.declared.entry.StoreEntry.TheVariants.{Committed}
use Rattle.memory_store.specs.Entries.{StoreLog, after_entries, after_entry, contents_of}
use Rattle.memory_store.specs.Stored.{Stored, history_of, leases_of, meaning_of, with_entry, logged}

-- ---- one log behind another, and one entry more
pub after_both : (contents : Contents) (first then : StoreLog) → after_entries contents (first ++ then) ≡ after_entries (after_entries contents first) then
after_both contents [] then = refl
after_both contents (e ∷ first) then = after_both (after_entry contents e.1) first then

pub contents_more : (log : StoreLog) (e : ℕ × StoreEntry) → contents_of (log ++ e ∷ []) ≡ after_entry (contents_of log) e.1
contents_more log e = after_both empty_contents log (e ∷ [])

contents_with : (log : StoreLog) (writer : ℕ) (changes : List Change) → contents_of (with_entry log writer changes) ≡ record (contents_of log) { history = with_revision (history_of log) changes }
contents_with log writer [] = refl
contents_with log writer (c ∷ changes) = contents_more log (writer, Committed (c ∷ changes))

pub contents_logged : (log : StoreLog) (writer : ℕ) (ops : List Op) → contents_of (logged log writer ops) ≡ after_commit ops (contents_of log)
contents_logged log writer ops = contents_with log writer _

-- ---- the meaning
-- alone, a call finds what was there
pub found_same : (s : Stored) → Finds (meaning_of s) (contents_of s.log)
found_same s = record { later = ([], sym (append-nil (history_of s.log))); compacted = omega arith; alone = λ _. refl }

pub makes : (old new : Stored) (effect : Contents → Contents) → contents_of new.log ≡ effect (contents_of old.log) → new.calls ≡ old.calls + 1 → Makes (meaning_of old) (meaning_of new) effect
makes old new effect left calls = record {
  found = contents_of old.log;
  finds = found_same old;
  left = left;
  counts = record { calls = calls; told = refl };
}

pub commit_makes : (old new : Stored) (writer : ℕ) (ops : List Op) → new.log ≡ logged old.log writer ops → new.calls ≡ old.calls + 1 → Makes (meaning_of old) (meaning_of new) (after_commit ops)
commit_makes old new writer ops log calls = makes old new (after_commit ops) (ap contents_of log ∙ contents_logged old.log writer ops) calls

-- ---- a tick
pub with_begins : (h : History) (changes : List Change) → Begins h (with_revision h changes)
with_begins h [] = ([], sym (append-nil h))
with_begins h (c ∷ changes) = ((c ∷ changes) ∷ [], refl)

lapsed_begins : (h : History) (leases : List ℕ) → Begins h (all_lapsed h leases)
lapsed_begins h [] = ([], sym (append-nil h))
lapsed_begins h (lease ∷ leases) =
    let first = with_begins h (deletions (attached_keys h lease)) in
    let rest = lapsed_begins (lapsed h lease) leases in
    (first.0 ++ rest.0, rest.1 ∙ ap (λ (l : History). l ++ rest.0) first.1 ∙ append_assoc h first.0 rest.0)

same_history : (old new : Stored) → Begins (history_of old.log) (history_of new.log) → Keeps (meaning_of old) (meaning_of new)
same_history old new begins = record { history = begins; faults = omega arith; quiet = refl; numbers = refl; writable = λ k. refl }

pub tick_keeps : {T E : Type 0} (r : Result T E) (old new : Stored) (seconds : ℕ) → OnOk r (contents_of new.log ≡ after_tick seconds (contents_of old.log)) → OnErr r (new.log ≡ old.log) → Keeps (meaning_of old) (meaning_of new)
tick_keeps (Ok x) old new seconds contents same =
    same_history old new (subst (λ (c : Contents). Begins (history_of old.log) c.history) (sym contents) (lapsed_begins (history_of old.log) (let now = contents_of old.log in due_leases (advanced seconds now.leases))))
tick_keeps (Err e) old new seconds contents same = same_history old new (subst (λ (log : StoreLog). Begins (history_of old.log) (history_of log)) (sym same) ([], sym (append-nil (history_of old.log))))

-- ---- a lease kept alive
same_number : (now n : ℕ) (lease : Lease) (b : Bool) → let moved = cond b (record lease { deadline = deadline_at now lease.seconds }) lease in (moved.number == n) ≡ (lease.number == n)
same_number now n lease true = refl
same_number now n lease false = refl

still_live : (now n : ℕ) (live : List Lease) → is_live_lease (map (kept_alive now n) live) n ≡ is_live_lease live n
still_live now n [] = refl
still_live now n (x ∷ xs) = ap₂ ◌||◌ (same_number now n x (x.number == n)) (still_live now n xs)

pub keep_live : {T E : Type 0} (r : Result T E) (old new : StoreLog) (lease : ℕ) → (let table = leases_of old in OnOk r (is_live_lease table.live lease ≡ true)) → OnOk r (contents_of new ≡ after_keep_alive lease (contents_of old))
    → (let table = leases_of new in OnOk r (is_live_lease table.live lease ≡ true))
keep_live (Ok x) old new lease live contents =
    ap (λ (c : Contents). let table = c.leases in is_live_lease table.live lease) contents ∙ still_live (let table = leases_of old in table.now) lease (let table = leases_of old in table.live) ∙ live
keep_live (Err e) old new lease live contents = tt
