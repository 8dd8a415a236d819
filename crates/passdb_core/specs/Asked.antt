-- The commands that the program has read.
use Rattle.passdb_core.specs.declared.command.Command.{Command}
use Rattle.passdb_core.specs.declared.command.Command.TheVariants.{Add, Check, Change, Remove}
use Rattle.passdb_core.specs.Commands as base

abbrev pub command_in : Command → base.Command
command_in (Add name password) = base.add name password.now
command_in (Check name password) = base.check name password.now
command_in (Change name old new) = base.change name old.now new.now
command_in (Remove name) = base.remove name
