use Rattle.store_api.specs.Contents.{unchanged}
use Rattle.store_api.specs.declared.change.Batch.{Batch}
use Rattle.store_api.specs.Calls.{to_pull}
use Rattle.flaky_link.proofs.Called.{unmade_call}
use Rattle.flaky_link.proofs.Refusals.{never_made}
use Rattle.flaky_link.proofs.link.FlakyLinkStore.pull.Goals as goal

pub returns-in-FailsBefore-clause-answers : goal.returns-in-FailsBefore-clause-answers
returns-in-FailsBefore-clause-answers g c = record {
  batch = tt;
  there = tt;
  compacted = λ n e. cc;
  not_no_lease = λ n e. cc;
  call = never_made Batch unchanged c.args.self.now.state.now c.meet.new.self (g.S.Store.meaning c.args.self.now.store.now) c.in-FailsBefore.ensures.fate c.in-FailsBefore.ensures.state;
}

pub returns-in-FailsBefore-clause-call : goal.returns-in-FailsBefore-clause-call
returns-in-FailsBefore-clause-call g c = unmade_call (to_pull c.args.from) c.args.self.now.state.now c.meet.new.self (g.S.Store.meaning c.args.self.now.store.now) c.in-FailsBefore.ensures.fate c.in-FailsBefore.ensures.state
