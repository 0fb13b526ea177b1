use Rattle.std.proofs.Common.{refl, slice_set}
use Rattle.std.proofs.lemmas.List.Elements.{All-map}
use Rattle.mesh_world.specs.Goes.{IsOpen}
use Rattle.replay_tests.proofs.replays.journals.journaled_stores.Goals as goal

pub returns-clause-open : goal.returns-clause-open
returns-clause-open c = All-map IsOpen _ (slice_set c.in_ok-stores.stores.items 1 c.in_ok-stores-2.field-0) (λ k d lt. record { quiet = refl; writable = λ key. refl })
