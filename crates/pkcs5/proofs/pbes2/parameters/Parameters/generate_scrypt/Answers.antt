use Rattle.std.proofs.Common.{List, ℕ, ap}
use Rattle.pkcs5.specs.Generation.{recommended}
use Rattle.pkcs5.proofs.Drawn.{made_of}
use Rattle.pkcs5.proofs.pbes2.parameters.Parameters.generate_scrypt.Goals as goal

pub returns-clause-ok : goal.returns-clause-ok
returns-clause-ok g c =
    made_of _ _ recommended c.in_ok-iv.field-0.iv c.in_ok-iv.field-0.salt _ (ap (λ (s : List ℕ). recommended c.in_ok-iv.field-0.iv s) c.of_16.ensures) c.in_ok-iv.ensures.ok
