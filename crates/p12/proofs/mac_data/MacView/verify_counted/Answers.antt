use Rattle.std.proofs.Common.{ap, ◌∙◌, length, arith}
use Rattle.pkcs12_kdf.proofs.PasswordSizes.{password_fits}
use Rattle.p12.proofs.mac_data.MacView.verify_counted.Goals as goal

pub verify_mac_counted-requires-clause-password : goal.verify_mac_counted-requires-clause-password
verify_mac_counted-requires-clause-password g c =
    let long = password_fits c.args.password.now in
    omega (arith, ap length (c.as_slice.ensures ∙ c.in_ok-units.ensures.ok), long, c.requires.password)
