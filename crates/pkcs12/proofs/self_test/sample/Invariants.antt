use Rattle.pkcs12.proofs.self_test.sample.Given as goal

abbrev pub ghosts-sample_into : goal.ghosts-sample_into
ghosts-sample_into a = record { name = a.blank.name; parts = a.blank.parts }
