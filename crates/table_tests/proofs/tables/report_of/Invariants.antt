use Rattle.table_tests.proofs.tables.report_of.Given as goal

abbrev pub ghosts-report_counted : goal.ghosts-report_counted
ghosts-report_counted a = record { name = a.blank.name; parts = a.blank.parts }
