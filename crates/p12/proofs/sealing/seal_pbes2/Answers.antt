use Rattle.std.proofs.Common.{arith}
use Rattle.p12.proofs.Pbes2.{pbes2_some}
use Rattle.p12.proofs.sealing.seal_pbes2.Goals as goal

pub returns-in-Ok-clause-opens : goal.returns-in-Ok-clause-opens
returns-in-Ok-clause-opens c = pbes2_some _ _ _ _ c.in-Ok.ensures.ok.0 (omega (arith, c.requires.rounds)) c.in-Ok.ensures.ok.1
