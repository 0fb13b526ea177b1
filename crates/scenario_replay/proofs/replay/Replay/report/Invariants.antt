use Rattle.scenario_replay.proofs.replay.Replay.report.Given as goal

abbrev pub ghosts-report_of : goal.ghosts-report_of
ghosts-report_of a = record { name = a.blank.name; parts = a.blank.parts }
