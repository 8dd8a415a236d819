use Rattle.pkcs12_opening.proofs.opening.opened_any_store.Given as goal

abbrev pub ghosts-open_any : goal.ghosts-open_any
ghosts-open_any a = record { name = a.blank.name; parts = a.blank.parts }
