use Rattle.std.proofs.Common.{ap, ◌∙◌, length, arith}
use Rattle.pkcs12_kdf.proofs.PasswordSizes.{password_fits}
use Rattle.p12.proofs.pfx.PFX.new_with_cas.Goals as goal

pub outer_text-requires : goal.outer_text-requires
outer_text-requires g c =
    let long = password_fits c.args.password.now in
    omega (arith, ap length (c.as_slice.ensures ∙ c.in_ok-units.ensures.ok), long, c.requires)

pub store_over-requires-clause-password : goal.store_over-requires-clause-password
store_over-requires-clause-password g c =
    let long = password_fits c.args.password.now in
    omega (arith, ap length (c.as_slice-2.ensures ∙ c.in_ok-units.ensures.ok), long, c.requires)
