use Rattle.pkcs12_kdf.proofs.derivation.Derivation.mac.Given as goal

abbrev pub ghosts-mac_from : goal.ghosts-mac_from
ghosts-mac_from g a = record { name = a.blank.name; parts = a.blank.parts }
