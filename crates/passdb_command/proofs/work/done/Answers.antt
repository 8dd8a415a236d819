use Rattle.std.proofs.Common.{rules}
use Rattle.passdb_command.proofs.Outcomes.{added, changed_as, checked_as, removed_as, reset_as}
use Rattle.passdb_command.proofs.work.done.Goals as goal

pub returns-in-Add : goal.returns-in-Add
returns-in-Add g c = added _ _ _ _ _ _ _ _ _ _ _ c.in-Add.is (search rules) c.add.ensures.done

pub returns-in-Check : goal.returns-in-Check
returns-in-Check g c = checked_as _ _ _ _ _ _ _ _ _ _ _ c.in-Check.is (search rules) c.check.ensures.done

pub returns-in-Change : goal.returns-in-Change
returns-in-Change g c = changed_as _ _ _ _ _ _ _ _ _ _ _ _ _ c.in-Change.is (search rules) (search rules) c.change.ensures.done

pub returns-in-Reset : goal.returns-in-Reset
returns-in-Reset g c = reset_as _ _ _ _ _ _ _ _ _ c.in-Reset.is (search rules) c.reset.ensures

pub returns : goal.returns
returns g c = removed_as _ _ _ _ _ _ c.in-Remove.is c.remove.ensures.reply c.remove.ensures.entries
