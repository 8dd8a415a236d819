use Rattle.std.proofs.Common.{List, ℕ, ◌++◌, ap, inl, inr}
use Rattle.asn1_core.specs.Der.{oid, null}
use Rattle.pkcs5.proofs.Writings.{writes_same}
use Rattle.pkcs5.proofs.pbes2.pbkdf2_prf.Pbkdf2PrfEncodeValue.encode_value.Goals as goal

pub returns-clause-written : goal.returns-clause-written
returns-clause-written g c =
    writes_same g.W.Writer.sink _ _ _ _ c.args.w.now c.write_pair.new.w c.write_pair.result (ap (λ (k : List ℕ). oid k ++ null) c.oid.ensures) (elim [ inl h ↦ h | inr h ↦ h ]) c.write_pair.ensures.written
