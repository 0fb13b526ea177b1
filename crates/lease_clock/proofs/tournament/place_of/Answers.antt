use Rattle.std.proofs.Common.{is_some, ap, sym, ◌∙◌, arith, rules}
use Rattle.std.proofs.lemmas.List.{length-map}
use Rattle.std.proofs.lemmas.List.Sorted.{answers_always}
use Rattle.lease_clock.specs.declared.tournament.KeptLease.{KeptLease}
use Rattle.lease_clock.specs.Kept.{entries_of, entry_of, is_running}
use Rattle.lease_clock.proofs.Deadlines.{no_lease}
use Rattle.lease_clock.proofs.Numbers.{ended, nothing}
use Rattle.lease_clock.proofs.Places.{answers_none, answers_some, at_entry}
use Rattle.lease_clock.proofs.tournament.place_of.Goals as goal

-- the closure gives a lease's number
pub returns-in_err-place : goal.returns-in_err-place
returns-in_err-place c = λ last numbered.
    let facts = c.binary_search_by_key.ensures in
    let by_key = facts.position (λ (kept : KeptLease). kept.number) (answers_always _ _ _ (λ f a r g called. search rules)) in
    rw c.from_residual.ensures (answers_none c.args.kept.now last c.args.number numbered c.binary_search_by_key.result by_key (sym c.ok.ensures.value ∙ c.in_err-place.was))

-- the lease at the place has ended
pub returns-in_err-kept : goal.returns-in_err-kept
returns-in_err-kept c = λ last numbered.
    let facts = c.binary_search_by_key.ensures in
    let by_key = facts.position (λ (kept : KeptLease). kept.number) (answers_always _ _ _ (λ f a r g called. search rules)) in
    let kept = c.args.kept.now in
    let place = c.in_ok-place.place in
    let found = answers_some kept last c.args.number numbered c.binary_search_by_key.result facts.bound by_key place (sym c.ok.ensures.value ∙ c.in_ok-place.was) in
    let over = ap is_running (at_entry kept place no_lease nothing found.0) ∙ ap is_some c.in_err-kept.was in
    rw c.from_residual-in_err-kept.ensures (ended last c.args.number 0 place (entries_of kept) nothing numbered (omega (arith, found.0, length-map kept entry_of)) (found.1 nothing) over)

pub returns : goal.returns
returns c = λ last numbered.
    let facts = c.binary_search_by_key.ensures in
    let by_key = facts.position (λ (kept : KeptLease). kept.number) (answers_always _ _ _ (λ f a r g called. search rules)) in
    let kept = c.args.kept.now in
    let place = c.in_ok-place.place in
    let found = answers_some kept last c.args.number numbered c.binary_search_by_key.result facts.bound by_key place (sym c.ok.ensures.value ∙ c.in_ok-place.was) in
    (omega (arith, found.0, length-map kept entry_of), λ d. (found.1 d, ap is_running (at_entry kept place no_lease d found.0) ∙ ap is_some c.in_ok-kept.was))
