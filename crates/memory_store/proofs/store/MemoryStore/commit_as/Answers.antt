use Rattle.std.proofs.Common.{◌≡◌, ◌<◌, ◌+◌, ◌++◌, ◌∷◌, [], List, Some, length, ap, ◌∙◌, sym, subst, refl, arith}
use Rattle.std.proofs.lemmas.Bool.Decides.{nat_tests}
use Rattle.std.proofs.lemmas.Grind.{common_steps}
use Rattle.std.proofs.lemmas.List.{length-append}
use Rattle.store_api.specs.declared.change.Change.{Change}
use Rattle.memory_store.specs.declared.live.Made.{Made}
use Rattle.memory_store.specs.declared.entry.StoreEntry.{StoreEntry}
use Rattle.memory_store.specs.declared.entry.StoreEntry.TheVariants.{Committed}
use Rattle.memory_store.specs.Entries.{contents_of}
use Rattle.memory_store.specs.Kept.{IsAfter, IsCurrentIn, IsKept, history_in}
use Rattle.memory_store.specs.Stored.{logged}
use Rattle.memory_store.proofs.Calls.{contents_logged}
use Rattle.memory_store.proofs.Keeping.{kept_committed, logged_is, revision_is}
use Rattle.memory_store.proofs.store.MemoryStore.commit_as.Goals as goal

changed : (c : goal.After-note) → 0 < length c.committed-changes.result.0
changed c = (let h = c.if-is_empty.ensures in grind (arith, common_steps, nat_tests))

noted : (c : goal.After-note) → c.note.new.self ≡ c.self.inside.log ++ (c.args.writer, Committed c.committed-changes.result.0) ∷ []
noted c = c.note.ensures ∙ ap (λ (entry : StoreEntry). c.self.inside.log ++ (c.args.writer, entry) ∷ []) (c.committed-changes.ensures.entry ∙ ap Committed (sym c.committed-changes.ensures.changes))

lives : (c : goal.After-note) → IsCurrentIn (history_in c.self.inside.history.items) c.in_ok-current.current
lives c = subst (λ (h : List Made). IsCurrentIn (history_in h) c.in_ok-current.current) c.as_slice.ensures.value c.in_ok-current.ensures

log_is : (c : goal.After-note) → c.note.new.self ≡ logged c.self.inside.log c.args.writer c.args.ops.now
log_is c = logged_is c.self.inside.log c.note.new.self c.self.inside.history.items c.self.inside.compacted c.self.inside.leases c.self.inside.current c.self.invariant
    c.args.writer c.committed-changes.result.0 c.args.ops.now c.in_ok-current.current (noted c) (changed c) (c.committed-changes.ensures.changes ∙ c.in_ok-changes.ensures) (lives c)

kept : (c : goal.After-note) → IsKept c.note.new.self c.push.new.self.items c.self.inside.compacted c.self.inside.leases (Some c.apply_changes.new.current)
kept c =
    let made : Made = record { writer = c.args.writer; changes = c.committed-changes.result.0 } in
    let pushed : c.push.new.self.items ≡ c.self.inside.history.items ++ made ∷ [] = c.in_ok-push.ensures.items in
    kept_committed c.self.inside.log c.note.new.self c.self.inside.history.items c.self.inside.compacted c.self.inside.leases c.self.inside.current c.self.invariant
    c.args.writer c.committed-changes.result.0 c.args.ops.now c.in_ok-current.current (noted c) (changed c) (c.committed-changes.ensures.changes ∙ c.in_ok-changes.ensures) (lives c)
    made c.push.new.self.items c.apply_changes.new.current refl refl pushed
    (subst (λ (changes : List Change). IsAfter changes c.in_ok-current.current c.apply_changes.new.current) (c.as_slice-2.ensures.value ∙ sym c.committed-changes.ensures.changes) c.in_ok-apply_changes.ensures)
    (omega (arith, ap length pushed, length-append c.self.inside.history.items (made ∷ []), c.len-at.ensures, c.self.inside.history.ok)) c.requires.distinct

pub invariant_of-self-2 : goal.invariant_of-self-2
invariant_of-self-2 c = kept c

pub returns-clause-log : goal.returns-clause-log
returns-clause-log c = rw (← c.self.view_is) (log_is c)

pub returns-clause-contents : goal.returns-clause-contents
returns-clause-contents c = rw (← c.self.view_is) (ap contents_of (log_is c) ∙ contents_logged c.self.inside.log c.args.writer c.args.ops.now)

pub returns-clause-revision : goal.returns-clause-revision
returns-clause-revision c =
    let made : Made = record { writer = c.args.writer; changes = c.committed-changes.result.0 } in
    let pushed : c.push.new.self.items ≡ c.self.inside.history.items ++ made ∷ [] = c.in_ok-push.ensures.items in
    let more : c.len-at.result + 2 ≡ c.len-at.result + 1 + 1 = omega arith in
    more ∙ revision_is c.note.new.self c.note.new.self c.push.new.self.items c.self.inside.compacted c.self.inside.leases (Some c.apply_changes.new.current) (kept c) (c.len-at.result + 1)
    (omega (arith, ap length pushed, length-append c.self.inside.history.items (made ∷ []), c.len-at.ensures, c.self.inside.history.ok))
