use Rattle.std.proofs.Common.{refl, inl}
use Rattle.store_api.specs.Contents.{unchanged}
use Rattle.store_api.specs.declared.change.Listing.{Listing}
use Rattle.store_api.specs.Calls.{to_list}
use Rattle.flaky_link.proofs.Called.{unmade_call}
use Rattle.flaky_link.proofs.Refusals.{never_made}
use Rattle.flaky_link.proofs.link.FlakyLinkStore.list.Goals as goal

pub returns-in-FailsBefore-clause-answers : goal.returns-in-FailsBefore-clause-answers
returns-in-FailsBefore-clause-answers g c = record {
  listing = tt;
  refusals = inl refl;
  call = never_made Listing unchanged c.args.self.now.state.now c.meet.new.self (g.S.Store.meaning c.args.self.now.store.now) c.in-FailsBefore.ensures.fate c.in-FailsBefore.ensures.state;
}

pub returns-in-FailsBefore-clause-call : goal.returns-in-FailsBefore-clause-call
returns-in-FailsBefore-clause-call g c = unmade_call to_list c.args.self.now.state.now c.meet.new.self (g.S.Store.meaning c.args.self.now.store.now) c.in-FailsBefore.ensures.fate c.in-FailsBefore.ensures.state
