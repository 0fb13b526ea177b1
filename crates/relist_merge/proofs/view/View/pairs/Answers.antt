use Rattle.std.proofs.Common.{List, map}
use Rattle.store_api.specs.History.{entry_of}
use Rattle.store_api.specs.declared.change.Pair.{Pair}
use Rattle.relist_merge.proofs.RowLists.{on-ok, rows-list}
use Rattle.relist_merge.proofs.view.View.pairs.Goals as goal

pub returns : goal.returns
returns c =
    on-ok c.pairs.result
    (λ (pairs : List Pair) is. rows-list c.args.self.now.rows.fresh c.args.self.now.rows.map.entries (map entry_of pairs) is c.pairs.ensures.distinct)
    c.pairs.ensures.pairs
