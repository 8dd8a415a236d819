use Rattle.p12.proofs.opening.opened_pbes2.Given as goal

abbrev pub ghosts-opened_pbes2_from : goal.ghosts-opened_pbes2_from
ghosts-opened_pbes2_from a = record { name = a.blank.name; parts = a.blank.parts }
