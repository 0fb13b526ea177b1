use Rattle.std.proofs.Common.{ℕ, refl, inl}
use Rattle.store_api.specs.Contents.{after_grant}
use Rattle.store_api.specs.Calls.{to_grant}
use Rattle.flaky_link.proofs.Called.{unmade_call}
use Rattle.flaky_link.proofs.Refusals.{never_made}
use Rattle.flaky_link.proofs.link.FlakyLinkStore.grant.Goals as goal

pub returns-in-FailsBefore-clause-answers : goal.returns-in-FailsBefore-clause-answers
returns-in-FailsBefore-clause-answers g c = record {
  number = tt;
  refusals = inl refl;
  call = never_made ℕ (after_grant c.args.seconds) c.args.self.now.state.now c.meet.new.self (g.S.Store.meaning c.args.self.now.store.now) c.in-FailsBefore.ensures.fate c.in-FailsBefore.ensures.state;
}

pub returns-in-FailsBefore-clause-call : goal.returns-in-FailsBefore-clause-call
returns-in-FailsBefore-clause-call g c = unmade_call (to_grant c.args.seconds) c.args.self.now.state.now c.meet.new.self (g.S.Store.meaning c.args.self.now.store.now) c.in-FailsBefore.ensures.fate c.in-FailsBefore.ensures.state
