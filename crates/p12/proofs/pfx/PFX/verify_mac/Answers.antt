use Rattle.std.proofs.Common.{ap, ◌∙◌, length, arith}
use Rattle.pkcs12_kdf.proofs.PasswordSizes.{password_fits}
use Rattle.p12.proofs.pfx.PFX.verify_mac.Goals as goal

pub verify_mac-requires-clause-password : goal.verify_mac-requires-clause-password
verify_mac-requires-clause-password c =
    let long = password_fits c.args.password.now in
    omega (arith, ap length (c.as_slice-2.ensures ∙ c.in_ok-units.ensures.ok), long, c.requires.password)
