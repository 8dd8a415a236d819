use Rattle.std.proofs.Common.{List, ℕ, ◌++◌, ap, inl, inr}
use Rattle.asn1_core.specs.Der.{el, oid}
use Rattle.pkcs5.specs.Pbes1.{pbe_params_content}
use Rattle.pkcs5.proofs.Writings.{writes_same}
use Rattle.pkcs5.proofs.pbes1.algorithm.AlgorithmEncodeValue.encode_value.Goals as goal

pub returns-clause-written : goal.returns-clause-written
returns-clause-written g c =
    writes_same g.W.Writer.sink _ _ _ _ c.args.w.now c.write_pair.new.w c.write_pair.result (ap (λ (k : List ℕ). oid k ++ el 0x30 (pbe_params_content c.args.self.now.parameters)) c.oid.ensures) (elim [ inl h ↦ absurd (h tt) | inr h ↦ h ]) c.write_pair.ensures.written
