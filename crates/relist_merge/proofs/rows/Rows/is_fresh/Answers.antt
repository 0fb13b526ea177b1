use Rattle.std.proofs.Common.{sym, []}
use Rattle.std.specs.Cmp.Lexicographic.{pointwise}
use Rattle.std.proofs.Common.{nat_eq}
use Rattle.indexmap.specs.IndexMap.{keys}
use Rattle.relist_merge.proofs.Places.{any-place, fresh-none}
use Rattle.relist_merge.proofs.rows.Rows.is_fresh.Goals as goal

pub returns-in-Some : goal.returns-in-Some
returns-in-Some c = sym (any-place (pointwise nat_eq c.args.key.now) [] (keys c.args.self.now.map) c.args.self.now.fresh c.in-Some.place (sym c.in-Some.ensures.index))

pub returns-in-None : goal.returns-in-None
returns-in-None c = sym (fresh-none (pointwise nat_eq c.args.key.now) c.args.self.now.fresh c.args.self.now.map.entries (sym c.in-None.ensures.found))
