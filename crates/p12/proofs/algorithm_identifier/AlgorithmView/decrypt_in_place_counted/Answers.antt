use Rattle.std.proofs.Common.{ap, ◌∙◌, length, arith}
use Rattle.pkcs12_kdf.proofs.PasswordSizes.{password_fits}
use Rattle.p12.proofs.algorithm_identifier.AlgorithmView.decrypt_in_place_counted.Goals as goal

pub open_pbe-requires-clause-password : goal.open_pbe-requires-clause-password
open_pbe-requires-clause-password g c =
    let long = password_fits c.args.password.now in
    omega (arith, ap length (c.as_slice.ensures ∙ c.in_ok-units-in-TripleDes.ensures.ok), long, c.requires.password)
