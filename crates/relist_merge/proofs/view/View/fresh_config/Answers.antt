use Rattle.std.proofs.Common.{◌∙◌, sym, ap, List, ℕ, Option, option_and_then}
use Rattle.std.specs.Option.{option_copied}
use Rattle.relist_merge.specs.Readings.{config_said}
use Rattle.relist_merge.specs.Shown.{fresh_row}
use Rattle.relist_merge.specs.declared.rows.Row.{Row}
use Rattle.relist_merge.proofs.Viewing.{config-fresh}
use Rattle.relist_merge.proofs.view.View.fresh_config.Goals as goal

pub returns : goal.returns
returns c =
    c.config_said.ensures
    ∙ ap (λ (o : Option Row). option_and_then (λ (row : Row). config_said row.reading) o) (ap option_copied (sym c.in_ok-get_fresh.was) ∙ c.get_fresh.ensures)
    ∙ ap (λ (k : List ℕ). option_and_then (λ (row : Row). config_said row.reading) (fresh_row c.args.self.now.rows.fresh c.args.self.now.rows.map.entries k)) c.requires
    ∙ config-fresh _ _ _ c.args.self.now.rows.fresh c.args.self.now.rows.map.entries c.args.self.now.kept c.as_bytes.ensures.valid
