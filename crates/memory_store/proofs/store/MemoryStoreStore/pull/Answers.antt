use Rattle.memory_store.proofs.Called.{pull_answered, pull_refused, stored, wanted}
use Rattle.std.proofs.Common.{◌≡◌, ◌≤◌, ◌<◌, refl, ap, arith}
use Rattle.store_api.specs.Calls.{to_pull}
use Rattle.store_api.specs.Contents.{Contents}
use Rattle.memory_store.specs.Entries.{contents_of}
use Rattle.store_api.specs.declared.change.Batch.{Batch}
use Rattle.memory_store.proofs.store.MemoryStoreStore.pull.Goals.{Then-from-self}
use Rattle.memory_store.proofs.store.MemoryStoreStore.pull.Goals as goal

gone : (c : Then-from-self) → let contents = contents_of c.self.inside.log in c.args.from ≤ contents.compacted
gone c = let contents = contents_of c.self.inside.log in let is : contents.compacted ≡ c.self.inside.compacted = ap (λ (x : Contents). x.compacted) c.self.invariant.contents in omega (arith, is, c.if-from-self.true)

there : (c : goal.In_ok-revisions) → let contents = contents_of c.self.inside.log in contents.compacted < c.args.from
there c = let contents = contents_of c.self.inside.log in let is : contents.compacted ≡ c.self.inside.compacted = ap (λ (x : Contents). x.compacted) c.self.invariant.contents in omega (arith, is, c.if-from-self.false)

pub returns-then-from-self-clause-call : goal.returns-then-from-self-clause-call
returns-then-from-self-clause-call c = rw (← c.self.view_is) (pull_refused c.args.from (stored c.self.inside.log c.self.inside.calls) (stored c.self.inside.log c.raise.new.self) refl c.raise.ensures (gone c))

pub returns-clause-call : goal.returns-clause-call
returns-clause-call c = rw (← c.self.view_is) (pull_answered c.args.from (stored c.self.inside.log c.self.inside.calls) (stored c.self.inside.log c.raise.new.self) refl c.raise.ensures (there c))

pub returns-in_err-revisions-clause-call : goal.returns-in_err-revisions-clause-call
returns-in_err-revisions-clause-call c = rw (← c.self.view_is) (wanted (to_pull c.args.from) Batch c.from_residual.result (stored c.self.inside.log c.self.inside.calls) (stored c.self.inside.log c.raise.new.self) refl c.raise.ensures c.from_residual.ensures.1)
