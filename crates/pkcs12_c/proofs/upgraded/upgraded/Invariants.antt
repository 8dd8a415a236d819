use Rattle.pkcs12_c.proofs.upgraded.upgraded.Given as goal

abbrev pub ghosts-upgraded_from : goal.ghosts-upgraded_from
ghosts-upgraded_from a = record { name = a.blank.name; parts = a.blank.parts }
