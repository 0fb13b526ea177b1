use Rattle.std.proofs.Common.{◌≡◌, true, refl}
use Rattle.std.proofs.lemmas.List.Elements.{All-map}
use Rattle.mesh_world.specs.Goes.{IsFresh, IsOpen}
use Rattle.store_api.specs.Meaning.{Meaning}
use Rattle.scenario_replay.proofs.fresh.fresh_stores.Goals as goal

pub returns-clause-fresh : goal.returns-clause-fresh
returns-clause-fresh c = All-map IsFresh _ c.loop-place.stores.items c.loop-place.invariant.fresh

pub returns-clause-open : goal.returns-clause-open
returns-clause-open c = All-map IsOpen _ c.loop-place.stores.items (λ k d lt. record { quiet = refl; writable = λ key. refl })

pub returns-clause-numbered : goal.returns-clause-numbered
returns-clause-numbered c = All-map (λ (m : Meaning). m.numbers ≡ true) _ c.loop-place.stores.items (λ k d lt. refl)
