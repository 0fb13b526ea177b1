use Rattle.std.proofs.Common.{ℕ}
use Rattle.scenario_replay.specs.Rows.{AreMarked, HasTables}
use Rattle.scenario_replay.proofs.sighting.Sighting.tell_all.Given as goal

-- the remotes in front are told
abbrev pub invariant-loop-place : goal.invariant-loop-place
invariant-loop-place g l = record {
  tables : (number : ℕ) → HasTables number l.remotes l.fn.self → HasTables number l.remotes l.self;
  marked : AreMarked l.place l.self.told.items;
}
