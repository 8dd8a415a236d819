use Rattle.transfer_tests.proofs.stores_opened.kept.Given as goal

abbrev pub ghosts-kept_counted : goal.ghosts-kept_counted
ghosts-kept_counted a = record { name = a.blank.name; parts = a.blank.parts }
