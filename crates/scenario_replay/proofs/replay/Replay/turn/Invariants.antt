use Rattle.scenario_replay.proofs.replay.Replay.turn.Given as goal

abbrev pub ghosts-tell : goal.ghosts-tell
ghosts-tell g a = record { name = a.blank.name; parts = a.blank.parts }
