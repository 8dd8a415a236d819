use Rattle.std.proofs.Common.{ap, refl}
use Rattle.phc_core.specs.Remainders.{seen}
use Rattle.phc_core.proofs.Stages.{no_params_plain, no_params_field, no_params_behind}
use Rattle.phc_core.proofs.Pieces.{not_from_false}
use Rattle.phc_core.proofs.reading.read_params.Goals as goal

pub returns-in_default-read_salt-clause-err : goal.returns-in_default-read_salt-clause-err
returns-in_default-read_salt-clause-err c = (refl, no_params_plain _ _ _ _ (ap seen c.in-Some.is) c.cut.ensures (c.lacks_equals.ensures.0 c.if-lacks_equals.true) c.in_default-read_salt.ensures.err.1)

pub returns-in_default-read-clause-err : goal.returns-in_default-read-clause-err
returns-in_default-read-clause-err c = (refl, no_params_field _ _ _ _ (ap seen c.in-Some.is) c.cut.ensures (not_from_false _ _ c.lacks_equals.ensures c.if-lacks_equals.false) c.in_default-read.ensures.err.1)

pub returns-in_default-read_salt-2-clause-err : goal.returns-in_default-read_salt-2-clause-err
returns-in_default-read_salt-2-clause-err c = (refl, no_params_behind _ _ _ _ (ap seen c.in-Some.is) c.cut.ensures (not_from_false _ _ c.lacks_equals.ensures c.if-lacks_equals.false) c.in_default-read_salt-2.ensures.err.1)
