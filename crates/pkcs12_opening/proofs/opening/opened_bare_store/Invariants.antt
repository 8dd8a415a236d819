use Rattle.pkcs12_opening.proofs.opening.opened_bare_store.Given as goal

abbrev pub ghosts-open_old : goal.ghosts-open_old
ghosts-open_old a = record { name = a.blank.name; parts = a.blank.parts }
