use Rattle.std.proofs.Common.{ap, ◌∙◌, sym}
use Rattle.store_api.specs.Contents.{Contents}
use Rattle.store_api.specs.Leases.{LeaseTable}
use Rattle.memory_store.specs.declared.entry.StoreEntry.TheVariants.{Granted}
use Rattle.memory_store.specs.Entries.{contents_of}
use Rattle.memory_store.specs.Kept.{IsKept}
use Rattle.memory_store.proofs.Calls.{contents_more}
use Rattle.memory_store.proofs.Keeping.{kept_granted}
use Rattle.memory_store.proofs.Called.{next_is_new}
use Rattle.memory_store.proofs.Keeping.{numbered_in}
use Rattle.memory_store.proofs.store.MemoryStore.grant_as.Goals as goal

kept : (c : goal.After-note) → IsKept c.note.new.log c.self.inside.history.items c.self.inside.compacted c.grant.new.self c.self.inside.current
kept c = kept_granted c.self.inside.log c.note.new.log c.self.inside.history.items c.self.inside.compacted c.self.inside.leases c.self.inside.current c.self.invariant c.args.writer c.args.seconds c.grant.new.self
    c.note.ensures c.in_ok-number.ensures.granted

pub invariant_of-self-2 : goal.invariant_of-self-2
invariant_of-self-2 c = kept c

pub returns-clause-contents : goal.returns-clause-contents
returns-clause-contents c = rw (← c.self.view_is) (ap contents_of c.note.ensures ∙ contents_more c.self.inside.log (c.args.writer, Granted c.args.seconds))

pub returns-clause-number : goal.returns-clause-number
returns-clause-number c = let now = kept c in c.in_ok-number.ensures.number ∙ ap (λ (t : LeaseTable). t.last) (sym c.in_ok-number.ensures.granted) ∙ ap (λ (x : Contents). let leases = x.leases in leases.last) (sym now.contents)

pub returns-clause-fresh : goal.returns-clause-fresh
returns-clause-fresh c = rw (← c.self.view_is) (next_is_new c.self.inside.log
    (numbered_in c.self.inside.log c.self.inside.log c.self.inside.history.items c.self.inside.compacted c.self.inside.leases c.self.inside.current c.self.invariant c.is_numbered.ensures))
