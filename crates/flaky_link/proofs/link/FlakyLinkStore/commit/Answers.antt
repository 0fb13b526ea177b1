use Rattle.std.proofs.Common.{ℕ}
use Rattle.store_api.specs.Contents.{after_commit}
use Rattle.store_api.specs.Calls.{to_commit}
use Rattle.flaky_link.proofs.Called.{unmade_call}
use Rattle.flaky_link.proofs.Refusals.{never_made}
use Rattle.flaky_link.proofs.link.FlakyLinkStore.commit.Goals as goal

pub returns-in-FailsBefore-clause-answers : goal.returns-in-FailsBefore-clause-answers
returns-in-FailsBefore-clause-answers g c = record {
  revision = tt;
  all_live = tt;
  no_lease = λ n e. cc;
  not_compacted = λ n e. cc;
  call = never_made ℕ (after_commit c.args.ops.now) c.args.self.now.state.now c.meet.new.self (g.S.Store.meaning c.args.self.now.store.now) c.in-FailsBefore.ensures.fate c.in-FailsBefore.ensures.state;
}

pub returns-in-FailsBefore-clause-call : goal.returns-in-FailsBefore-clause-call
returns-in-FailsBefore-clause-call g c = unmade_call (to_commit c.args.ops.now) c.args.self.now.state.now c.meet.new.self (g.S.Store.meaning c.args.self.now.store.now) c.in-FailsBefore.ensures.fate c.in-FailsBefore.ensures.state
