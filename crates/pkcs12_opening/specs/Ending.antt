-- How the command ends where it has not done what was asked.
use Rattle.std.specs.Prelude.{ℕ, ◌≡◌, ◌⊎◌}
use Rattle.pkcs12_opening.specs.declared.ending.Ending.{Ending}
use Rattle.pkcs12_opening.specs.declared.ending.Ending.TheVariants.{Usage, ReadFault, WriteFault, Memory, PasswordMissing, NewPasswordMissing, PasswordUnusable, OutputExists, SelfTestFailed, NotExported, SealLimit, TooManyFiles, Expiring, Refused}
use Rattle.frame.specs.Status.{status_code}
use Rattle.pkcs12_output.specs.declared.output_error.OutputErrorKind.{OutputErrorKind}
use Rattle.pkcs12_output.specs.declared.output_error.OutputErrorKind.TheVariants as output
use Rattle.transfer.specs.Status.{status_of}
use Rattle.transfer.specs.declared.store.error.TransferError.{TransferError}
use Rattle.transfer.specs.declared.store.error.TransferError.TheVariants as refusals

-- the number that the program ends with: for a store that is refused it is that of the refusal's
-- status
unfoldable pub code_of : Ending → ℕ
code_of Usage = 2
code_of ReadFault = 3
code_of WriteFault = 4
code_of Memory = 7
code_of PasswordMissing = 8
code_of NewPasswordMissing = 9
code_of PasswordUnusable = 22
code_of OutputExists = 23
code_of SelfTestFailed = 24
code_of NotExported = 25
code_of SealLimit = 26
code_of TooManyFiles = 27
code_of Expiring = 29
code_of (Refused refusal) = status_code (status_of refusal)

-- the failure that an error of the output is
abbrev pub ending_of : OutputErrorKind → Ending
ending_of output.Usage = Usage
ending_of output.WriteFault = WriteFault
ending_of output.OutputExists = OutputExists
ending_of output.Memory = Memory

-- A failure of reading a password: it cannot be read, it cannot be used, or there is no memory for it.
abbrev pub IsPasswordFailure : Ending → Type 0
IsPasswordFailure ending = (ending ≡ ReadFault) ⊎ (ending ≡ PasswordUnusable) ⊎ (ending ≡ Memory)

-- the failure that a refusal is
abbrev pub ending_of_refusal : TransferError → Ending
ending_of_refusal refusals.Memory = Memory
ending_of_refusal e = Refused e
