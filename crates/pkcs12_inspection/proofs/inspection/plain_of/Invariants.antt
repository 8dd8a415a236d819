use Rattle.pkcs12_inspection.proofs.inspection.plain_of.Given as goal

abbrev pub ghosts-opened_from : goal.ghosts-opened_from
ghosts-opened_from a = record { name = a.blank.name; parts = a.blank.parts }
