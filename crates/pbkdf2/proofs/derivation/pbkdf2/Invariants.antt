use Rattle.pbkdf2.proofs.derivation.pbkdf2.Given as goal

abbrev pub ghosts-pbkdf2_from : goal.ghosts-pbkdf2_from
ghosts-pbkdf2_from g a = record { name = a.blank.name; parts = a.blank.parts }
