use Rattle.std.proofs.Common.{ap, arith, length}
use Rattle.pkcs12_kdf.proofs.PasswordSizes.{password_fits}
use Rattle.transfer.specs.Sample.{sample_password}
use Rattle.transfer.proofs.sample.store.store_of.Goals as goal

pub with_salt-requires-clause-password : goal.with_salt-requires-clause-password
with_salt-requires-clause-password c =
    omega (arith, password_fits sample_password, ap length c.as_slice-2.ensures, ap length c.in_ok-password.ensures.ok)
