use Rattle.transfer_tests.proofs.stores_opened.transferred.Given as goal

abbrev pub ghosts-transferred_counted : goal.ghosts-transferred_counted
ghosts-transferred_counted a = record { name = a.blank.name; parts = a.blank.parts }
