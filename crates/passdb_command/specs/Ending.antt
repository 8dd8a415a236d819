-- How the command ends where it has not done what was asked.
use Rattle.std.specs.Prelude.{ℕ}
use Rattle.passdb_command.specs.declared.ending.Ending.{Ending}
use Rattle.passdb_command.specs.declared.ending.Ending.TheVariants.{Usage, ReadFault, WriteFault, Locked, Malformed, Memory, PasswordMissing, NewPasswordMissing, WrongPassword, NameUnknown, NameExists, Rng, PasswordUnusable}

-- the exit number
unfoldable pub code_of : Ending → ℕ
code_of Usage = 2
code_of ReadFault = 3
code_of WriteFault = 4
code_of Locked = 5
code_of Malformed = 6
code_of Memory = 7
code_of PasswordMissing = 8
code_of NewPasswordMissing = 9
code_of WrongPassword = 10
code_of NameUnknown = 11
code_of NameExists = 12
code_of Rng = 20
code_of PasswordUnusable = 22
