use Rattle.std.proofs.Common.{refl}
use Rattle.p12.proofs.AlgorithmRows.{digest-exact}
use Rattle.p12.proofs.Public.{refused_free}
use Rattle.p12.proofs.digest_info.DigestInfo.parse.Goals as goal

pub returns-in-Err-clause-stands : goal.returns-in-Err-clause-stands
returns-in-Err-clause-stands c = rw (c.into.ensures) (refl, refused_free digest-exact _ _ c.in-Err.ensures.exact.1)

pub returns-clause-stands : goal.returns-clause-stands
returns-clause-stands c = rw (c.in_ok-digest.ensures.ok) (digest-exact.found _ _ _ c.in-Ok.ensures.exact)
