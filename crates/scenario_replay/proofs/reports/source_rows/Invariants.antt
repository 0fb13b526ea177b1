use Rattle.std.proofs.Common.{◌≡◌, length}
use Rattle.scenario_replay.proofs.Reported.{AreRowsOf}
use Rattle.scenario_replay.proofs.reports.source_rows.Given as goal

abbrev pub invariant-loop-remote : goal.invariant-loop-remote
invariant-loop-remote l = AreRowsOf l.remotes l.rows × (length l.rows ≡ l.remote-index)
