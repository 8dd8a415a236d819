use Rattle.transfer.proofs.store.opening.Opening.open.Given as goal

abbrev pub ghosts-open_from : goal.ghosts-open_from
ghosts-open_from a = record { name = a.blank.name; parts = a.blank.parts }
