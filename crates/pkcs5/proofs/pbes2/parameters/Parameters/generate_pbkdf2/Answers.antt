use Rattle.std.proofs.Common.{List, ℕ, ap}
use Rattle.pkcs5.specs.Generation.{by_pbkdf2}
use Rattle.pkcs5.proofs.Drawn.{made_of}
use Rattle.pkcs5.proofs.pbes2.parameters.Parameters.generate_pbkdf2.Goals as goal

pub returns-clause-ok : goal.returns-clause-ok
returns-clause-ok g c =
    made_of _ _ by_pbkdf2 c.in_ok-iv.field-0.iv c.in_ok-iv.field-0.salt _ (ap (λ (s : List ℕ). by_pbkdf2 c.in_ok-iv.field-0.iv s) c.of_16.ensures) c.in_ok-iv.ensures.ok
