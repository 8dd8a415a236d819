use Rattle.pkcs12_c.proofs.changed.changed.Given as goal

abbrev pub ghosts-changed_from : goal.ghosts-changed_from
ghosts-changed_from a = record { name = a.blank.name; parts = a.blank.parts }
