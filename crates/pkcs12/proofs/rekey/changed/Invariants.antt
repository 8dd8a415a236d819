use Rattle.pkcs12.proofs.rekey.changed.Given as goal

abbrev pub ghosts-changed_from : goal.ghosts-changed_from
ghosts-changed_from _ a = record { name = a.blank.name; parts = a.blank.parts }
