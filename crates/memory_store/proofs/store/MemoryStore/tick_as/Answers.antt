use Rattle.std.proofs.Common.{◌≡◌, ◌<◌, ◌++◌, ◌∷◌, [], ℕ, List, false, Some, IsTrue, length, ap, ◌∙◌, subst, arith}
use Rattle.std.proofs.lemmas.List.{length-append}
use Rattle.store_api.specs.Leases.{advanced, due_leases, expired}
use Rattle.memory_store.specs.declared.live.Made.{Made}
use Rattle.memory_store.specs.declared.entry.StoreEntry.TheVariants.{Ticked}
use Rattle.memory_store.specs.Entries.{contents_of}
use Rattle.memory_store.specs.Kept.{IsCurrentIn, IsKept, history_in}
use Rattle.memory_store.proofs.Calls.{contents_more}
use Rattle.memory_store.proofs.Keeping.{kept_quiet, kept_ticked, revision_is}
use Rattle.memory_store.proofs.store.MemoryStore.tick_as.Goals as goal

no_leases_due : (due : List ℕ) → (0 < length due → IsTrue false) → due ≡ []
no_leases_due [] none = cc
no_leases_due (lease ∷ due) none = let some = none (omega arith) in cc

quiet : (c : goal.After-len) → IsKept c.note.new.log c.self.inside.history.items c.self.inside.compacted c.advance.new.self c.self.inside.current
quiet c = kept_quiet c.self.inside.log c.note.new.log c.self.inside.history.items c.self.inside.compacted c.self.inside.leases c.self.inside.current c.self.invariant c.args.writer c.args.seconds c.advance.new.self
    c.note.ensures c.advance.ensures (no_leases_due (due_leases (advanced c.args.seconds c.self.inside.leases)) c.if-not-has_due_after.ensures.1)

pub invariant_of-self : goal.invariant_of-self
invariant_of-self c = quiet c

pub returns-then-not-has_due_after-clause-contents : goal.returns-then-not-has_due_after-clause-contents
returns-then-not-has_due_after-clause-contents c = rw (← c.self.view_is) (ap contents_of c.note.ensures ∙ contents_more c.self.inside.log (c.args.writer, Ticked c.args.seconds))

pub returns-then-not-has_due_after-clause-revision : goal.returns-then-not-has_due_after-clause-revision
returns-then-not-has_due_after-clause-revision c =
    revision_is c.note.new.log c.note.new.log c.self.inside.history.items c.self.inside.compacted c.advance.new.self c.self.inside.current (quiet c) c.len.result (omega (arith, c.len.ensures, c.self.inside.history.ok))

lapsing : (c : goal.After-drop-due-2) → IsKept c.note-2.new.log c.append.new.self.items c.self.inside.compacted c.expire.new.self (Some c.lapses.new.current)
lapsing c =
    let history : List Made = c.self.inside.history.items in
    let made : List Made = c.in_ok-made.made.items in
    let current : IsCurrentIn (history_in history) c.in_ok-current.current = subst (λ (h : List Made). IsCurrentIn (history_in h) c.in_ok-current.current) c.as_slice.ensures.value c.in_ok-current.ensures in
    let pushed : c.append.new.self.items ≡ history ++ made = c.in_ok-append.ensures.items in
    kept_ticked c.self.inside.log c.note-2.new.log history c.self.inside.compacted c.self.inside.leases c.self.inside.current c.self.invariant c.args.writer c.args.seconds
    c.as_slice-2.result.now made c.append.new.self.items c.expire.new.self c.lapses.new.current
    c.note-2.ensures (c.as_slice-2.ensures.value ∙ c.in_ok-due.ensures) (c.in_ok-made.ensures.lapse (history_in history) current) c.in_ok-made.ensures.writers pushed
    (c.expire.ensures ∙ ap expired c.advance-2.ensures)
    (omega (arith, ap length pushed, length-append history made, c.len-2.ensures, c.len-3.ensures, c.in_ok-made.made.ok, c.self.inside.history.ok, c.self.invariant.few))

pub invariant_of-self-2 : goal.invariant_of-self-2
invariant_of-self-2 c = lapsing c

pub returns-clause-contents : goal.returns-clause-contents
returns-clause-contents c = rw (← c.self.view_is) (ap contents_of c.note-2.ensures ∙ contents_more c.self.inside.log (c.args.writer, Ticked c.args.seconds))

pub returns-clause-revision : goal.returns-clause-revision
returns-clause-revision c =
    revision_is c.note-2.new.log c.note-2.new.log c.append.new.self.items c.self.inside.compacted c.expire.new.self (Some c.lapses.new.current) (lapsing c) c.len-4.result (omega (arith, c.len-4.ensures, c.append.new.self.ok))
