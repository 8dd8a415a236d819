use Rattle.passdb_command.proofs.Resets.{not_removed, removed_and_added}
use Rattle.passdb_command.proofs.work.reset.Goals as goal

pub returns-in_default : goal.returns-in_default
returns-in_default g c = not_removed _ _ _ _ _ _ c.remove.ensures.reply c.in_default.not-Removed c.remove.ensures.entries

pub returns : goal.returns
returns g c =
    removed_and_added _ _ _ _ _ _ _ _ _ _ _ c.requires c.remove.ensures.rounds c.remove.ensures.reply c.in-Removed.is c.remove.ensures.entries c.in_ok-add.ensures.done
