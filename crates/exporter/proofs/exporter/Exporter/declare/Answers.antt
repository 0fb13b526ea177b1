use Rattle.std.proofs.Common.{ℕ, List, ap, ◌∙◌}
use Rattle.store_api.specs.History.{in_ranges}
use Rattle.key_paths.specs.Paths.{record_ranges}
use Rattle.key_paths.specs.declared.hop.Hop.TheVariants.{State}
use Rattle.exporter.proofs.Keys.{exported_inside}
use Rattle.exporter.proofs.exporter.Exporter.declare.Goals as goal

pub declare_bytes-requires : goal.declare_bytes-requires
declare_bytes-requires c = ap (λ (x : List ℕ). in_ranges (record_ranges c.args.self.now.cluster State) x) (c.from_vec-key.ensures ∙ c.in_ok-write_key.ensures) ∙ exported_inside c.args.self.now.cluster c.args.key.now c.requires.exported
