use Rattle.program_tests.proofs.inventories.inventory_of.Given as goal

abbrev pub ghosts-inventory_counted : goal.ghosts-inventory_counted
ghosts-inventory_counted a = record { name = a.blank.name; parts = a.blank.parts }
