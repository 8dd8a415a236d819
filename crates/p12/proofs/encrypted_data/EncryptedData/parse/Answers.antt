use Rattle.std.proofs.Common.{refl}
use Rattle.p12.proofs.ContentRows.{encrypted_data-exact}
use Rattle.p12.proofs.Public.{refused_free}
use Rattle.p12.proofs.encrypted_data.EncryptedData.parse.Goals as goal

pub returns-in-Err-clause-stands : goal.returns-in-Err-clause-stands
returns-in-Err-clause-stands c = rw (c.into.ensures) (refl, refused_free encrypted_data-exact _ _ c.in-Err.ensures.exact.1)

pub returns-clause-stands : goal.returns-clause-stands
returns-clause-stands c = rw (c.in_ok-encrypted_content_info.ensures.ok) (encrypted_data-exact.found _ _ _ c.in-Ok.ensures.exact)
