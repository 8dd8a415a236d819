use Rattle.pkcs12_opening.proofs.opening.open_any.Given as goal

abbrev pub ghosts-open_old : goal.ghosts-open_old
ghosts-open_old g a = record { name = a.blank.name; parts = a.blank.parts }
