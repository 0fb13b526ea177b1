use Rattle.relist_merge.proofs.Places.{fresh-grow}
use Rattle.relist_merge.proofs.rows.Rows.freshen.Goals as goal

pub returns-then-self-place-clause-fresh : goal.returns-then-self-place-clause-fresh
returns-then-self-place-clause-fresh c = λ k. fresh-grow k c.args.self.now.map.entries c.swap_indices.new.self.entries c.args.self.now.fresh c.args.place c.if-self-place.true c.requires c.swap_indices.ensures.entries
