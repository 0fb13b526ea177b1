use Rattle.std.proofs.Common.{sym, arith}
use Rattle.relist_merge.proofs.Places.{gone-stale, gone-fresh, gone-absent, row-stale, row-fresh}
use Rattle.relist_merge.proofs.rows.Rows.forget.Goals as goal

pub returns-then-place-self-clause-entries : goal.returns-then-place-self-clause-entries
returns-then-place-self-clause-entries c =
    λ k. gone-fresh c.swap_indices.new.self c.swap_remove_index.new.self _ c.swap_remove_index.result (omega (arith, c.swap_indices.ensures.reordered.1)) c.swap_remove_index.ensures.entry c.swap_remove_index.ensures.entries c.swap_remove_index.ensures.updates
    c.args.self.now.map.entries k c.args.key.now c.args.self.now.fresh c.in-Some.place (sym c.in-Some.ensures.index) c.if-place-self.true c.args.self.now.within (omega arith) c.swap_indices.ensures.entries c.swap_indices.ensures.reordered.2

pub returns-else-place-self-clause-entries : goal.returns-else-place-self-clause-entries
returns-else-place-self-clause-entries c =
    λ k. gone-stale c.args.self.now.map c.swap_remove_index-else-place-self.new.self c.in-Some.place c.swap_remove_index-else-place-self.result c.in-Some.ensures.within c.swap_remove_index-else-place-self.ensures.entry c.swap_remove_index-else-place-self.ensures.entries c.swap_remove_index-else-place-self.ensures.updates
    k c.args.key.now c.args.self.now.fresh (sym c.in-Some.ensures.index) c.if-place-self.false

pub returns-in_default-clause-entries : goal.returns-in_default-clause-entries
returns-in_default-clause-entries c = λ k. gone-absent k c.args.key.now c.args.self.now.fresh c.args.self.now.map.entries (sym c.in_default.ensures.found)

pub returns-then-place-self-clause-rows : goal.returns-then-place-self-clause-rows
returns-then-place-self-clause-rows c =
    λ k. row-fresh c.swap_indices.new.self c.swap_remove_index.new.self _ c.swap_remove_index.result (omega (arith, c.swap_indices.ensures.reordered.1)) c.swap_remove_index.ensures.entry c.swap_remove_index.ensures.entries c.swap_remove_index.ensures.updates
    c.args.self.now.map.entries k c.args.key.now c.args.self.now.fresh c.in-Some.place (sym c.in-Some.ensures.index) c.if-place-self.true c.args.self.now.within (omega arith) c.swap_indices.ensures.entries c.swap_indices.ensures.reordered.2

pub returns-else-place-self-clause-rows : goal.returns-else-place-self-clause-rows
returns-else-place-self-clause-rows c =
    λ k. row-stale c.args.self.now.map c.swap_remove_index-else-place-self.new.self c.in-Some.place c.swap_remove_index-else-place-self.result c.in-Some.ensures.within c.swap_remove_index-else-place-self.ensures.entry c.swap_remove_index-else-place-self.ensures.entries c.swap_remove_index-else-place-self.ensures.updates
    k c.args.key.now (sym c.in-Some.ensures.index)
