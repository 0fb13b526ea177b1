use Rattle.std.proofs.Common.{ap, ◌∙◌}
use Rattle.std.specs.FinMap as finite
use Rattle.store_api.specs.History.{Pairing}
use Rattle.exporter.proofs.Maps.{set_in}
use Rattle.exporter.proofs.declared.Declared.set.Goals as goal

pub returns-clause-set : goal.returns-clause-set
returns-clause-set c = set_in c.self.inside.values.entries c.insert.new.self.entries c.args.key c.args.value c.in_ok-insert.ensures.updates.0
    ∙ ap (λ (m : Pairing). finite.insert m c.args.key c.args.value) c.self.view_is
