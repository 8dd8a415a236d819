use Rattle.pkcs12_opening.proofs.opening.opened_store.Given as goal

abbrev pub ghosts-open_modern : goal.ghosts-open_modern
ghosts-open_modern a = record { name = a.blank.name; parts = a.blank.parts }
