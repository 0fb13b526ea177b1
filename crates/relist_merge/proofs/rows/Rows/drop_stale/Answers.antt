use Rattle.std.proofs.Common.{List, ℕ, ap, ◌∙◌}
use Rattle.std.proofs.Common.{nat_eq}
use Rattle.std.specs.Cmp.Lexicographic.{pointwise}
use Rattle.relist_merge.proofs.Places.{kept-rows, lookup-take}
use Rattle.relist_merge.specs.Shown.{entry_in, row_at}
use Rattle.relist_merge.specs.declared.rows.Row.{Row}
use Rattle.relist_merge.proofs.rows.Rows.drop_stale.Goals as goal

pub returns-clause-entries : goal.returns-clause-entries
returns-clause-entries c =
    λ k. ap (λ (l : List (List ℕ × Row)). entry_in c.args.self.now.fresh l k) c.truncate.ensures.entries
    ∙ kept-rows c.args.self.now.fresh c.args.self.now.map.entries k

pub returns-clause-rows : goal.returns-clause-rows
returns-clause-rows c =
    λ k. ap (λ (l : List (List ℕ × Row)). row_at l k) c.truncate.ensures.entries
    ∙ lookup-take (pointwise nat_eq k) c.args.self.now.fresh c.args.self.now.map.entries
