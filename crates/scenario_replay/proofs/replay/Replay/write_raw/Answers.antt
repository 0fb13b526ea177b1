use Rattle.std.proofs.Common.{◌+◌, arith}
use Rattle.scenario_replay.proofs.Answered.{done_written}
use Rattle.scenario_replay.proofs.Worlds.{writable_at}
use Rattle.scenario_replay.proofs.replay.Replay.write_raw.Goals as goal

pub write_raw-requires : goal.write_raw-requires
write_raw-requires g c = record { writable = writable_at g.S.Store.meaning c.args.stores.now c.args.self.now (c.args.remote + 1) (omega arith) c.index-stores-remote.result c.requires.world }

pub returns-clause-done : goal.returns-clause-done
returns-clause-done g c = done_written g.S.Store.meaning c.args.stores.now c.args.self.now c.args.remote c.requires.remote c.index-stores-remote.result c.write_raw.new.store c.args.write.now c.write_raw.result c.write_raw.ensures.asked
