use Rattle.std.proofs.Common.{ap, refl}
use Rattle.phc_core.specs.Remainders.{seen}
use Rattle.phc_core.proofs.Stages.{no_version_plain, no_version_number, no_version_behind}
use Rattle.phc_core.proofs.reading.read_version.Goals as goal

pub returns-in_default-read_params-clause-err : goal.returns-in_default-read_params-clause-err
returns-in_default-read_params-clause-err c = (refl, no_version_plain _ _ _ _ (ap seen c.in-Some.is) c.cut.ensures (rw c.in_default-version_digits.is at c.version_digits.ensures) c.in_default-read_params.ensures.err.1)

pub returns-in_default-decimal_of-clause-err : goal.returns-in_default-decimal_of-clause-err
returns-in_default-decimal_of-clause-err c = (refl, no_version_number _ _ _ _ _ (ap seen c.in-Some.is) c.cut.ensures c.in-Some-version_digits.ensures c.in_default-decimal_of.ensures.none)

pub returns-in_default-read_params-2-clause-err : goal.returns-in_default-read_params-2-clause-err
returns-in_default-read_params-2-clause-err c = (refl, no_version_behind _ _ _ _ _ (ap seen c.in-Some.is) c.cut.ensures c.in-Some-version_digits.ensures c.in_default-read_params-2.ensures.err.1)
