use Rattle.std.proofs.Common.{sym, subst, List, ℕ}
use Rattle.spki.specs.KeyLaws.{document_refused}
use Rattle.der_core.specs.BitString.{seen_bits}
use Rattle.spki.specs.Seen.{owned_any, seen_public_key, IsPublicKey}
use Rattle.spki.proofs.subject_public_key_info.SubjectPublicKeyInfoOwned.from_key.Goals as goal

pub returns-clause-err : goal.returns-clause-err
returns-clause-err g c =
    document_refused _ _ IsPublicKey (seen_public_key owned_any (λ s. seen_bits s.unused_bits s.octets)) (g.T.EncodePublicKey.refuses c.args.source.now) (g.T.EncodePublicKey.text c.args.source.now) c.as_bytes.result.now
    (subst (λ (b : List ℕ). g.T.EncodePublicKey.text c.args.source.now b) (sym c.as_bytes.ensures.value) c.in_ok-document.ensures.ok) c.from_der.result c.from_der.ensures
