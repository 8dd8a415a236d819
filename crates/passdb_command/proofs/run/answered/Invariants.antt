use Rattle.passdb_command.proofs.run.answered.Given as goal

abbrev pub ghosts-done : goal.ghosts-done
ghosts-done g a = record { name = a.blank.name; parts = a.blank.parts }
