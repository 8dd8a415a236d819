use Rattle.transfer_tests.proofs.faults.ends_at_read.Given as goal

abbrev pub ghosts-runs : goal.ghosts-runs
ghosts-runs a = record { name = a.blank.name; parts = a.blank.parts }
