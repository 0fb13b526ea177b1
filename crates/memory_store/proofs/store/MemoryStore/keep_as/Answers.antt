use Rattle.std.proofs.Common.{◌≡◌, ℕ, Option, not, nat_eq, ap, ap₂, sym, ◌∙◌}
use Rattle.std.specs.Option.{option_eq}
use Rattle.store_api.specs.Leases.{deadline_of}
use Rattle.memory_store.specs.Effects.{moves}
use Rattle.memory_store.specs.Entries.{contents_of}
use Rattle.memory_store.specs.Stored.{with_keep_alive}
use Rattle.memory_store.proofs.Effects.{contents_kept_alive}
use Rattle.memory_store.proofs.Keeping.{keep_logged, kept_renewed, numbered_in}
use Rattle.memory_store.proofs.store.MemoryStore.keep_as.Goals as goal

effect_is : (c : goal.After-note_where) → c.ne-moves.result ≡ moves c.self.inside.leases c.args.lease
effect_is c =
    c.ne-moves.ensures
    ∙ ap₂ (λ (before after : Option ℕ). not (option_eq nat_eq before after)) c.deadline-before.ensures (sym c.in-Some.ensures.deadline ∙ ap (deadline_of c.args.lease) c.in-Some.ensures.renewed)

log_is : (c : goal.After-note_where) → c.note_where.new.log ≡ with_keep_alive c.self.inside.log c.args.writer c.args.lease
log_is c = keep_logged c.self.inside.log c.note_where.new.log c.self.inside.history.items c.self.inside.compacted c.self.inside.leases c.self.inside.current c.self.invariant c.ne-moves.result c.args.writer c.args.lease
    c.note_where.ensures (effect_is c)

pub invariant_of-self-2 : goal.invariant_of-self-2
invariant_of-self-2 c = kept_renewed c.self.inside.log c.note_where.new.log c.self.inside.history.items c.self.inside.compacted c.self.inside.leases c.self.inside.current c.self.invariant c.args.writer c.args.lease c.renew.new.self
    (log_is c) c.in-Some.ensures.renewed c.is_numbered.ensures

pub returns-clause-log : goal.returns-clause-log
returns-clause-log c = rw (← c.self.view_is) (log_is c)

pub returns-clause-contents : goal.returns-clause-contents
returns-clause-contents c = rw (← c.self.view_is) (ap contents_of (log_is c) ∙ contents_kept_alive c.self.inside.log c.args.writer c.args.lease
    (numbered_in c.self.inside.log c.note_where.new.log c.self.inside.history.items c.self.inside.compacted c.self.inside.leases c.self.inside.current c.self.invariant c.is_numbered.ensures))
