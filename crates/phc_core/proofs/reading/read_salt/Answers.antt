use Rattle.std.proofs.Common.{ap, refl}
use Rattle.phc_core.specs.Remainders.{seen}
use Rattle.phc_core.proofs.Stages.{no_salt, no_salt_behind}
use Rattle.phc_core.proofs.reading.read_salt.Goals as goal

pub returns-in_default-read-clause-err : goal.returns-in_default-read-clause-err
returns-in_default-read-clause-err c = (refl, no_salt _ _ _ _ (ap seen c.in-Some.is) c.cut.ensures c.in_default-read.ensures.err.1)

pub returns-in_default-read_hash-clause-err : goal.returns-in_default-read_hash-clause-err
returns-in_default-read_hash-clause-err c = (refl, no_salt_behind _ _ _ _ (ap seen c.in-Some.is) c.cut.ensures c.in_default-read_hash.ensures.err.1)
