use Rattle.pkcs12_c.proofs.listed.listed.Given as goal

abbrev pub ghosts-listed_from : goal.ghosts-listed_from
ghosts-listed_from a = record { name = a.blank.name; parts = a.blank.parts }
