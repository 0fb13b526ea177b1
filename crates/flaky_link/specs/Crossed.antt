-- What a call through a link says of the link and of the store behind it, to a caller that only knows
-- that it called a store.
-- The form is this project's own.
use Rattle.std.specs.Prelude.{◌≡◌, ◌≢◌, ◌⊎◌}
use Rattle.store_api.specs.Calls.{Request, Ending, Called, IsLost, WantsMemory}
use Rattle.store_api.specs.Meaning.{Meaning}
use Rattle.flaky_link.specs.Link.{Link, fate, failed, passed}
use Rattle.flaky_link.specs.declared.state.Fate.{Fate}
use Rattle.flaky_link.specs.declared.state.Fate.TheVariants.{Passes, FailsBefore, FailsAfter}

-- the store was asked: it made the call, refused it, or lost it itself
pub record IsAsked (request : Request) (before after : Meaning) : Type 0 where
  pub end : Ending
  pub told : end ≢ WantsMemory
  pub called : Called request end before after

-- the link passed the call, and the store behind it ended it so; or the call did not reach that store; or
-- the store's answer was lost, unless memory was wanted
abbrev pub CrossedBy : Fate → Link → Link → Meaning → Meaning → Request → Ending → Type 0
CrossedBy Passes old new before after request end = (new ≡ passed old) × Called request end before after
CrossedBy FailsBefore old new before after request end = (end ≡ IsLost) × (new ≡ failed old) × (after ≡ before)
CrossedBy FailsAfter old new before after request end = ((end ≡ WantsMemory) × (new ≡ old)) ⊎ ((end ≡ IsLost) × (new ≡ failed old) × IsAsked request before after)

abbrev pub Crossed : Link → Link → Meaning → Meaning → Request → Ending → Type 0
Crossed old new before after request end = CrossedBy (fate old) old new before after request end
