use Rattle.std.proofs.Common.{List, ℕ, sym, subst}
use Rattle.octet_core.specs.Draw.{DrawsIvAndSalt}
use Rattle.pkcs5.specs.Generation.{recommended}
use Rattle.pkcs8.specs.Sealing.{IsSealed}
use Rattle.pkcs8.proofs.Drawn.{of_some_text}
use Rattle.pkcs8.proofs.encode_private_key.EncodePrivateKey.to_pkcs8_encrypted_der.Goals as goal

pub returns-clause-ok : goal.returns-clause-ok
returns-clause-ok g c =
    of_some_text (g.Self.EncodePrivateKey.text c.args.self.now)
    (λ m d. DrawsIvAndSalt (g.D.Draw.left c.args.draw.now) (g.D.Draw.left c.seal_drawn.new.draw) (λ iv salt. IsSealed (recommended iv salt) c.args.password.now m d.document.octets))
    c.as_bytes.result.now (subst (λ (m : List ℕ). g.Self.EncodePrivateKey.text c.args.self.now m) (sym c.as_bytes.ensures.value) c.in_ok-document.ensures.ok) c.seal_drawn.result c.seal_drawn.ensures.ok
