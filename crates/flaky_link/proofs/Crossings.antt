-- What comes of a call on a link says how it crossed the link.
use Rattle.std.proofs.Common.{◌≡◌, ◌∙◌, Ok, Err, refl, sym, ap, subst, inl, inr}
use Rattle.store_api.specs.Calls.{Answers, Called, Ending, IsLost, Refuses, Request, ending_of}
use Rattle.store_api.specs.Meaning.{Meaning}
use Rattle.store_api.specs.declared.change.StoreFault.TheVariants.{Lost, Compacted, NoLease, Memory}
use Rattle.flaky_link.specs.Answers.{Answer}
use Rattle.flaky_link.specs.Crossed.{Crossed, CrossedBy}
use Rattle.flaky_link.specs.Link.{Link, fate, failed, met, passed}
use Rattle.flaky_link.specs.Through.{after_hidden, hidden}
use Rattle.flaky_link.specs.declared.state.Fate.{Fate}
use Rattle.flaky_link.specs.declared.state.Fate.TheVariants.{Passes, FailsBefore, FailsAfter}

-- a call that passed
pub crossed_passed : (request : Request) (end : Ending) (old new : Link) (before after : Meaning) → Passes ≡ fate old → new ≡ met (fate old) old → Called request end before after → Crossed old new before after request end
crossed_passed request end old new before after passes is call =
    let left : new ≡ passed old = is ∙ ap (λ (f : Fate). met f old) (sym passes) in
    subst (λ (f : Fate). CrossedBy f old new before after request end) passes (left, call)

-- a call that did not reach the store
pub crossed_before : (request : Request) (old new : Link) (m : Meaning) → FailsBefore ≡ fate old → new ≡ met (fate old) old → Crossed old new m m request IsLost
crossed_before request old new m fails is =
    let left : new ≡ failed old = is ∙ ap (λ (f : Fate). met f old) (sym fails) in
    subst (λ (f : Fate). CrossedBy f old new m m request IsLost) fails (refl, left, refl)

-- a call whose answer was lost, unless memory was wanted
hides : (T : Type 0) (request : Request) (old : Link) (before after : Meaning) (answer : Answer T) → Called request (ending_of T answer) before after → CrossedBy FailsAfter old (after_hidden T answer old) before after request (ending_of T (hidden T answer))
hides T request old before after (Ok value) call = inr (refl, refl, record { end = Answers; told = λ e. cc; called = call })
hides T request old before after (Err Lost) call = inr (refl, refl, record { end = IsLost; told = λ e. cc; called = call })
hides T request old before after (Err (Compacted compacted)) call = inr (refl, refl, record { end = Refuses; told = λ e. cc; called = call })
hides T request old before after (Err (NoLease lease)) call = inr (refl, refl, record { end = Refuses; told = λ e. cc; called = call })
hides T request old before after (Err Memory) call = inl (refl, refl)

pub crossed_after : (T : Type 0) (request : Request) (old new : Link) (before after : Meaning) (answer result : Answer T) → FailsAfter ≡ fate old → new ≡ after_hidden T answer old → Called request (ending_of T answer) before after → result ≡ hidden T answer → Crossed old new before after request (ending_of T result)
crossed_after T request old new before after answer result fails is call told =
    subst (λ (f : Fate). CrossedBy f old new before after request (ending_of T result)) fails
    (subst (λ (l : Link). CrossedBy FailsAfter old l before after request (ending_of T result)) (sym is)
    (subst (λ (r : Answer T). CrossedBy FailsAfter old (after_hidden T answer old) before after request (ending_of T r)) (sym told) (hides T request old before after answer call)))
