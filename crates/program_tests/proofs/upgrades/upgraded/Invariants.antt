use Rattle.program_tests.proofs.upgrades.upgraded.Given as goal

abbrev pub ghosts-upgraded_counted : goal.ghosts-upgraded_counted
ghosts-upgraded_counted a = record { name = a.blank.name; parts = a.blank.parts }
