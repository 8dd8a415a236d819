use Rattle.std.proofs.Common.{ap, ◌∙◌, length, arith}
use Rattle.pkcs12_kdf.proofs.PasswordSizes.{password_fits}
use Rattle.p12.proofs.algorithm_identifier.AlgorithmIdentifier.decrypt_text.Goals as goal

pub decrypt_pbe-requires-clause-password : goal.decrypt_pbe-requires-clause-password
decrypt_pbe-requires-clause-password c =
    let long = password_fits c.args.password.now in
    omega (arith, ap length (c.as_slice.ensures ∙ c.in_ok-units-in-PbeWithSHAAnd3KeyTripleDESCBC.ensures.ok), long, c.requires.password)
