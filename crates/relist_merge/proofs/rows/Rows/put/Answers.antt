use Rattle.std.proofs.Common.{◌∙◌}
use Rattle.relist_merge.proofs.Places.{put-entry, put-fresh}
use Rattle.relist_merge.proofs.rows.Rows.put.Goals as goal

pub returns-clause-entries : goal.returns-clause-entries
returns-clause-entries c =
    let updates = rw c.unwrap-place.ensures at c.insert_full.ensures.updates in
    let index = rw c.unwrap-place.ensures at c.insert_full.ensures.index in
    let entries = rw c.unwrap-place.ensures at c.insert_full.ensures.entries in
    λ k. put-entry k c.args.key c.args.row c.args.self.now.map.entries c.freshen.new.self.map.entries c.args.self.now.fresh c.freshen.new.self.fresh
    (c.freshen.ensures.rows k ∙ updates.0 k)
    (c.freshen.ensures.fresh k ∙ put-fresh k c.args.key c.args.row c.args.self.now.map.entries c.insert_full.new.self.entries c.args.self.now.fresh c.unwrap-place.result.0 c.args.self.now.within entries index)
