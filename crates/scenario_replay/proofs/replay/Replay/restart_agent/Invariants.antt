use Rattle.std.proofs.Common.{◌≡◌, length}
use Rattle.std.specs.List.{AllByRecursion}
use Rattle.store_api.specs.Spans.{unread}
use Rattle.mesh_remote.specs.Shown.{IsOwnView}
use Rattle.scenario_replay.specs.Rows.{IsTold}
use Rattle.mesh_world.specs.World.{with_reader}
use Rattle.scenario_replay.proofs.Changes.{AreFront}
use Rattle.scenario_replay.proofs.replay.Replay.restart_agent.Given as goal

abbrev pub invariant-loop-place : goal.invariant-loop-place
invariant-loop-place l = record {
  many : length l.self.remotes.items ≡ length l.fn.self.remotes.items;
  local : l.self.local ≡ l.fn.self.local;
  number : l.self.number ≡ l.fn.self.number;
  reports : l.self.reports ≡ l.fn.self.reports;
  text : l.self.text ≡ l.fn.self.text;
  own : AllByRecursion IsOwnView l.self.remotes.items;
  told : IsTold l.self;
  front : AreFront (with_reader (λ r. unread)) l.place l.fn.self.remotes.items l.self.remotes.items;
}
