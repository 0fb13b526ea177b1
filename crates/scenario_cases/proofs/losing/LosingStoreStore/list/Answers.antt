use Rattle.store_api.specs.Calls.{ending_of, to_list}
use Rattle.store_api.specs.declared.change.Listing.{Listing}
use Rattle.store_api.specs.Contents.{unchanged}
use Rattle.memory_store.specs.Stored.{meaning_of}
use Rattle.scenario_cases.proofs.Losses.{lost_before, lost_call, told_call, unmade_call}
use Rattle.scenario_cases.proofs.losing.LosingStoreStore.list.Goals as goal

pub returns-in-Some-Before-clause-lost : goal.returns-in-Some-Before-clause-lost
returns-in-Some-Before-clause-lost c e = lost_before unchanged c.args.self.now.losses.lost c.meet.new.self.lost (meaning_of c.args.self.now.inner) c.in-Some-Before.ensures

pub returns-in-Some-Before-clause-call : goal.returns-in-Some-Before-clause-call
returns-in-Some-Before-clause-call c = unmade_call to_list c.args.self.now.losses.lost c.meet.new.self.lost (meaning_of c.args.self.now.inner) c.in-Some-Before.ensures

pub returns-in-None-clause-call : goal.returns-in-None-clause-call
returns-in-None-clause-call c = told_call c.args.self.now.losses.lost c.meet.new.self.lost (meaning_of c.args.self.now.inner) (meaning_of c.list.new.self) to_list (ending_of Listing c.list.result) c.in-None.ensures c.list.ensures.call

pub returns-in-Some-After-clause-call : goal.returns-in-Some-After-clause-call
returns-in-Some-After-clause-call c = lost_call c.args.self.now.losses.lost c.meet.new.self.lost (meaning_of c.args.self.now.inner) (meaning_of c.list-in-Some-After.new.self) to_list (ending_of Listing c.list-in-Some-After.result) c.in-Some-After.ensures c.list-in-Some-After.ensures.call
