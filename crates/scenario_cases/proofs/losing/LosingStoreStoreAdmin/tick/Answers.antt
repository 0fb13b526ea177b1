use Rattle.std.proofs.Common.{ℕ}
use Rattle.store_api.specs.Calls.{ending_of, to_tick}
use Rattle.store_api.specs.Contents.{after_tick}
use Rattle.memory_store.specs.Stored.{meaning_of}
use Rattle.scenario_cases.proofs.Losses.{lost_before, lost_call, told_call, unmade_call}
use Rattle.scenario_cases.proofs.losing.LosingStoreStoreAdmin.tick.Goals as goal

pub returns-in-Some-Before-clause-lost : goal.returns-in-Some-Before-clause-lost
returns-in-Some-Before-clause-lost c e = lost_before (after_tick c.args.seconds) c.args.self.now.losses.lost c.meet.new.self.lost (meaning_of c.args.self.now.inner) c.in-Some-Before.ensures

pub returns-in-Some-Before-clause-call : goal.returns-in-Some-Before-clause-call
returns-in-Some-Before-clause-call c = unmade_call (to_tick c.args.seconds) c.args.self.now.losses.lost c.meet.new.self.lost (meaning_of c.args.self.now.inner) c.in-Some-Before.ensures

pub returns-in-None-clause-call : goal.returns-in-None-clause-call
returns-in-None-clause-call c = told_call c.args.self.now.losses.lost c.meet.new.self.lost (meaning_of c.args.self.now.inner) (meaning_of c.tick.new.self) (to_tick c.args.seconds) (ending_of ℕ c.tick.result) c.in-None.ensures c.tick.ensures.call

pub returns-in-Some-After-clause-call : goal.returns-in-Some-After-clause-call
returns-in-Some-After-clause-call c = lost_call c.args.self.now.losses.lost c.meet.new.self.lost (meaning_of c.args.self.now.inner) (meaning_of c.tick-in-Some-After.new.self) (to_tick c.args.seconds) (ending_of ℕ c.tick-in-Some-After.result) c.in-Some-After.ensures c.tick-in-Some-After.ensures.call
