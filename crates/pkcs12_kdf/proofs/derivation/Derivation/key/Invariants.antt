use Rattle.pkcs12_kdf.proofs.derivation.Derivation.key.Given as goal

abbrev pub ghosts-key_from : goal.ghosts-key_from
ghosts-key_from g a = record { name = a.blank.name; parts = a.blank.parts }
