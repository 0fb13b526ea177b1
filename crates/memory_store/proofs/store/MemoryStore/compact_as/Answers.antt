use Rattle.std.proofs.Common.{◌≡◌, ap, ◌∙◌, sym, arith}
use Rattle.store_api.specs.Contents.{Contents}
use Rattle.memory_store.specs.Entries.{contents_of}
use Rattle.memory_store.specs.Kept.{IsKept}
use Rattle.memory_store.specs.Stored.{with_compaction}
use Rattle.memory_store.proofs.Effects.{contents_compacted}
use Rattle.memory_store.proofs.Keeping.{compact_logged, kept_compacted}
use Rattle.memory_store.proofs.store.MemoryStore.compact_as.Goals as goal

log_is : (c : goal.After-note_where) → c.note_where.new.log ≡ with_compaction c.self.inside.log c.args.writer c.args.upto
log_is c = compact_logged c.self.inside.log c.note_where.new.log c.self.inside.history.items c.self.inside.compacted c.self.inside.leases c.self.inside.current c.self.invariant c.args.writer c.args.upto c.len.result c.max-compacted.result
    (omega (arith, c.len.ensures, c.self.inside.history.ok)) (omega (arith, c.max-compacted.ensures, c.min.ensures)) c.note_where.ensures

kept : (c : goal.After-note_where) → IsKept c.note_where.new.log c.self.inside.history.items c.max-compacted.result c.self.inside.leases c.self.inside.current
kept c = kept_compacted c.self.inside.log c.note_where.new.log c.self.inside.history.items c.self.inside.compacted c.self.inside.leases c.self.inside.current c.self.invariant c.args.writer c.args.upto c.len.result c.max-compacted.result
    (omega (arith, c.len.ensures, c.self.inside.history.ok)) (omega (arith, c.max-compacted.ensures, c.min.ensures)) (log_is c)

pub invariant_of-self : goal.invariant_of-self
invariant_of-self c = kept c

pub returns-clause-log : goal.returns-clause-log
returns-clause-log c = rw (← c.self.view_is) (log_is c)

pub returns-clause-contents : goal.returns-clause-contents
returns-clause-contents c = rw (← c.self.view_is) (ap contents_of (log_is c) ∙ contents_compacted c.self.inside.log c.args.writer c.args.upto)

pub returns-clause-number : goal.returns-clause-number
returns-clause-number c = let now = kept c in ap (λ (x : Contents). x.compacted) (sym now.contents)
