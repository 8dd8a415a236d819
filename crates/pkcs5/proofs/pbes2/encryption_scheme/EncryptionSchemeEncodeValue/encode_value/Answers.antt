use Rattle.std.proofs.Common.{List, ℕ, ◌++◌, ◌∙◌, ap, inl, inr}
use Rattle.asn1_core.specs.Der.{oid, octets}
use Rattle.pkcs5.specs.Kinds.{cipher_oid}
use Rattle.pkcs5.proofs.Writings.{writes_same}
use Rattle.pkcs5.proofs.pbes2.encryption_scheme.EncryptionSchemeEncodeValue.encode_value.Goals as goal

pub returns-clause-written : goal.returns-clause-written
returns-clause-written g c =
    let text = ap (λ (k : List ℕ). oid k ++ octets c.iv_string.result.octets.now) c.oid.ensures ∙ ap (λ (v : List ℕ). oid (cipher_oid c.args.self.now) ++ octets v) c.iv_string.ensures.value in
    writes_same g.W.Writer.sink _ _ _ _ c.args.w.now c.write_pair.new.w c.write_pair.result text (elim [ inl h ↦ absurd (h tt) | inr h ↦ absurd (h tt) ]) c.write_pair.ensures.written
