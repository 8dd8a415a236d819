use Rattle.passdb_command.proofs.run.finding.Given as goal

abbrev pub ghosts-tested : goal.ghosts-tested
ghosts-tested g a = record { name = a.blank.name; parts = a.blank.parts }

abbrev pub ghosts-tested_evenly : goal.ghosts-tested_evenly
ghosts-tested_evenly g a = record { name = a.blank.name; parts = a.blank.parts }
