use Rattle.program_tests.proofs.run.holds.Given as goal

abbrev pub ghosts-runs : goal.ghosts-runs
ghosts-runs a = record { name = a.blank.name; parts = a.blank.parts }
