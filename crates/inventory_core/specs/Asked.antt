-- The command that the program has read.
use Rattle.inventory_core.specs.declared.command.Words.{Words}
use Rattle.inventory_core.specs.Words.{Command}

abbrev pub command_in : Words → Command
command_in w = record { password = w.password.now; limit = w.limit }
