use Rattle.p12.proofs.algorithm_identifier.AlgorithmIdentifier.decrypt_pbe.Given as goal

abbrev pub ghosts-decrypt_pbe_from : goal.ghosts-decrypt_pbe_from
ghosts-decrypt_pbe_from a = record { name = a.blank.name; parts = a.blank.parts }
