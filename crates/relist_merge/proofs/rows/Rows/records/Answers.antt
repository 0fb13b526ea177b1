use Rattle.relist_merge.proofs.RecordReadings.{rows_read}
use Rattle.relist_merge.proofs.rows.Rows.records.Goals as goal

pub records_of-requires : goal.records_of-requires
records_of-requires c = let (limit, read) = c.requires in (limit, rows_read limit c.args.self.now.map.entries c.keys_are_distinct.ensures read)
