use Rattle.std.proofs.Common.{◌∙◌}
use Rattle.octet_core.specs.Draw.{DrawsIvAndSalt}
use Rattle.pkcs5.specs.Generation.{recommended}
use Rattle.pkcs8.specs.Sealing.{IsSealed}
use Rattle.pkcs8.proofs.Drawn.{of_text, unsealed}
use Rattle.pkcs8.proofs.private_key_info.PrivateKeyInfo.encrypt_with_rng.Goals as goal

pub returns-in-Ok-clause-ok : goal.returns-in-Ok-clause-ok
returns-in-Ok-clause-ok g c =
    of_text
    (λ m d. DrawsIvAndSalt (g.D.Draw.left c.args.draw.now) (g.D.Draw.left c.seal_drawn.new.draw) (λ iv salt. IsSealed (recommended iv salt) c.args.password.now m d.document.octets))
    c.as_slice.result.now _ (c.as_slice.ensures ∙ c.in-Ok.ensures.ok) c.seal_drawn.result c.seal_drawn.ensures.ok

pub returns-in-Ok-clause-err : goal.returns-in-Ok-clause-err
returns-in-Ok-clause-err g c =
    unsealed _ _ c.args.password.now c.as_slice.result.now _ c.in-Ok.ensures.lawful (c.as_slice.ensures ∙ c.in-Ok.ensures.ok) c.seal_drawn.result c.seal_drawn.ensures.err
