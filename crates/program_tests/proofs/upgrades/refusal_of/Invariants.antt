use Rattle.program_tests.proofs.upgrades.refusal_of.Given as goal

abbrev pub ghosts-refusal_counted : goal.ghosts-refusal_counted
ghosts-refusal_counted a = record { name = a.blank.name; parts = a.blank.parts }
