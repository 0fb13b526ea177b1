use Rattle.std.proofs.Common.{refl, inl}
use Rattle.store_api.specs.Contents.{after_keep_alive}
use Rattle.store_api.specs.Calls.{to_keep_alive}
use Rattle.flaky_link.proofs.Called.{unmade_call}
use Rattle.flaky_link.proofs.Refusals.{never_made}
use Rattle.flaky_link.proofs.link.FlakyLinkStore.keep_alive.Goals as goal

pub returns-in-FailsBefore-clause-answers : goal.returns-in-FailsBefore-clause-answers
returns-in-FailsBefore-clause-answers g c = record {
  live = tt;
  no_lease = λ n e. cc;
  refusals = inl refl;
  call = never_made (Unit {0}) (after_keep_alive c.args.lease) c.args.self.now.state.now c.meet.new.self (g.S.Store.meaning c.args.self.now.store.now) c.in-FailsBefore.ensures.fate c.in-FailsBefore.ensures.state;
}

pub returns-in-FailsBefore-clause-call : goal.returns-in-FailsBefore-clause-call
returns-in-FailsBefore-clause-call g c = unmade_call (to_keep_alive c.args.lease) c.args.self.now.state.now c.meet.new.self (g.S.Store.meaning c.args.self.now.store.now) c.in-FailsBefore.ensures.fate c.in-FailsBefore.ensures.state
