use Rattle.std.proofs.Common.{ap, sym, is_some, ◌∙◌}
use Rattle.std.specs.FinMap as finite
use Rattle.store_api.specs.History.{Pairing}
use Rattle.exporter.proofs.Maps.{get_of}
use Rattle.exporter.proofs.declared.Declared.has.Goals as goal

pub returns : goal.returns
returns c = c.contains_key.ensures ∙ ap is_some (sym (get_of c.self.inside.values.entries c.args.key.now) ∙ ap (λ (m : Pairing). finite.get m c.args.key.now) c.self.view_is)
