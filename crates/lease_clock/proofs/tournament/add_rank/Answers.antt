use Rattle.std.proofs.Common.{arith}
use Rattle.lease_clock.specs.Kept.{entry_of}
use Rattle.lease_clock.proofs.DueRanks.{one_added}
use Rattle.lease_clock.proofs.tournament.add_rank.Goals as goal

pub returns-in_ok-insert : goal.returns-in_ok-insert
returns-in_ok-insert c = one_added c.args.time (omega (arith, c.ranges.time)) (entry_of c.args.at) c.in-Some.deadline c.args.ranks.now c.insert.new.self c.in-Some.is c.if-deadline-time.true c.in_ok-insert.ensures.updates.0
