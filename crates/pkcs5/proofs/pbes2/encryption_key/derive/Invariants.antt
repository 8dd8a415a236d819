use Rattle.pkcs5.proofs.pbes2.encryption_key.derive.Given as goal

abbrev pub ghosts-derive_uncounted : goal.ghosts-derive_uncounted
ghosts-derive_uncounted a = record { name = a.blank.name; parts = a.blank.parts }
