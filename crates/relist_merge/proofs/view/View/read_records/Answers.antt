use Rattle.std.proofs.Common.{map, refl}
use Rattle.relist_merge.specs.Shown.{pair_of}
use Rattle.relist_merge.specs.declared.telling.ReadRecord.{ReadRecord}
use Rattle.std.proofs.Common.{List}
use Rattle.relist_merge.proofs.RowLists.{on-ok, rows-list}
use Rattle.relist_merge.proofs.view.View.read_records.Goals as goal

pub returns : goal.returns
returns c =
    on-ok c.records.result
    (λ (records : List ReadRecord) is. (map pair_of c.args.self.now.rows.map.entries, rows-list c.args.self.now.rows.fresh c.args.self.now.rows.map.entries (map pair_of c.args.self.now.rows.map.entries) refl c.records.ensures.distinct, is))
    c.records.ensures.records
