use Rattle.std.proofs.Common.{refl}
use Rattle.p12.proofs.BagRows.{encrypted_key-exact}
use Rattle.p12.proofs.Public.{refused_free}
use Rattle.p12.proofs.encrypted_private_key_info.EncryptedPrivateKeyInfo.parse.Goals as goal

pub returns-in-Err-clause-stands : goal.returns-in-Err-clause-stands
returns-in-Err-clause-stands c = rw (c.into.ensures) (refl, refused_free encrypted_key-exact _ _ c.in-Err.ensures.exact.1)

pub returns-clause-stands : goal.returns-clause-stands
returns-clause-stands c = rw (c.in_ok-encryption_algorithm.ensures.ok, c.in_ok-encrypted_data.ensures) (encrypted_key-exact.found _ _ _ c.in-Ok.ensures.exact)
