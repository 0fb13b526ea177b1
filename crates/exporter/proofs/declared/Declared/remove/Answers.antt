use Rattle.std.proofs.Common.{ap, ◌∙◌}
use Rattle.std.specs.FinMap as finite
use Rattle.store_api.specs.History.{Pairing}
use Rattle.exporter.proofs.Maps.{removed_from}
use Rattle.exporter.proofs.declared.Declared.remove.Goals as goal

pub returns : goal.returns
returns c = removed_from c.self.inside.values.entries c.remove.new.self.entries c.args.key.now c.remove.ensures.updates.0
    ∙ ap (λ (m : Pairing). finite.remove m c.args.key.now) c.self.view_is
