use Rattle.std.proofs.Common.{◌∙◌, sym}
use Rattle.relist_merge.proofs.Places.{fresh-some}
use Rattle.relist_merge.proofs.view.View.is_fresh.Goals as goal

pub returns : goal.returns
returns c = c.is_fresh.ensures ∙ sym (fresh-some c.args.self.now.rows.fresh c.args.self.now.rows.map.entries c.args.key.now)
