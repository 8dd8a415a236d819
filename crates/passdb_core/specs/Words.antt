-- The arguments that the program has read.

use Rattle.passdb_core.specs.declared.program.command.Words.{Words}
use Rattle.passdb_core.specs.Program.{Asked}
use Rattle.passdb_core.specs.Digits.{digits_in}

abbrev pub asked_in : Words → Asked
asked_in w = record { rounds = w.rounds; digits = digits_in w.digits }
