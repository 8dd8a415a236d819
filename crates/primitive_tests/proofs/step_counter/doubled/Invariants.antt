use Rattle.primitive_tests.proofs.step_counter.doubled.Given as goal

abbrev pub ghosts-doubled_from : goal.ghosts-doubled_from
ghosts-doubled_from a = record { name = a.blank.name; parts = a.blank.parts }
