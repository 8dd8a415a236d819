use Rattle.transfer_tests.proofs.stores_opened.undrawn.Given as goal

abbrev pub ghosts-undrawn_counted : goal.ghosts-undrawn_counted
ghosts-undrawn_counted a = record { name = a.blank.name; parts = a.blank.parts }
