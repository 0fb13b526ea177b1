use Rattle.std.proofs.Common.{refl}
use Rattle.std.proofs.lemmas.List.Elements.{All-map}
use Rattle.mesh_world.specs.Goes.{IsOpen}
use Rattle.scenario_cases.proofs.losing.losing_stores.Goals as goal

pub returns-clause-open : goal.returns-clause-open
returns-clause-open c = All-map IsOpen _ c.loop-place.stores.items (λ k d lt. record { quiet = refl; writable = λ key. refl })
