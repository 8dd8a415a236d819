-- The statuses with which a program ends: the name, the number and the kind of each.
use Rattle.std.specs.Prelude.{ℕ, List, ◌++◌, Result, Ok, Err, codes, ⊤}
use Rattle.frame.specs.declared.status.Status.{Status}
use Rattle.frame.specs.declared.status.Status.TheVariants.{Done, Usage, ReadFault, WriteFault, InputTooLong, InputMalformed, Memory, Malformed, Unsupported, MacMissing, MacUnsupported, ZeroIterations, WorkLimit, MacMismatch, ContentMalformed, DecryptFailed, KeyMalformed, Rng, TooLong}

-- the name of a status
unfoldable pub status_name : Status → List ℕ
status_name Done = codes "Done"
status_name Usage = codes "Usage"
status_name ReadFault = codes "ReadFault"
status_name WriteFault = codes "WriteFault"
status_name InputTooLong = codes "InputTooLong"
status_name InputMalformed = codes "InputMalformed"
status_name Memory = codes "Memory"
status_name Malformed = codes "Malformed"
status_name Unsupported = codes "Unsupported"
status_name MacMissing = codes "MacMissing"
status_name MacUnsupported = codes "MacUnsupported"
status_name ZeroIterations = codes "ZeroIterations"
status_name WorkLimit = codes "WorkLimit"
status_name MacMismatch = codes "MacMismatch"
status_name ContentMalformed = codes "ContentMalformed"
status_name DecryptFailed = codes "DecryptFailed"
status_name KeyMalformed = codes "KeyMalformed"
status_name Rng = codes "Rng"
status_name TooLong = codes "TooLong"

-- the text that is due for a status other than Done
abbrev pub error_text : Status → List ℕ
error_text s = codes "error: " ++ status_name s ++ codes "\n"

-- the number of a status
abbrev pub status_code : Status → ℕ
status_code Done = 0
status_code Usage = 2
status_code ReadFault = 3
status_code WriteFault = 4
status_code InputTooLong = 5
status_code InputMalformed = 6
status_code Memory = 7
status_code Malformed = 10
status_code Unsupported = 11
status_code MacMissing = 12
status_code MacUnsupported = 13
status_code ZeroIterations = 14
status_code WorkLimit = 15
status_code MacMismatch = 16
status_code ContentMalformed = 17
status_code DecryptFailed = 18
status_code KeyMalformed = 19
status_code Rng = 20
status_code TooLong = 21

-- What kind of status it is: those of every program, and those that a program gives of its own.
pub data Kind : Type 0 where
  done : Kind
  usage : Kind
  read_fault : Kind
  write_fault : Kind
  too_long : Kind
  memory : Kind
  own : Kind

abbrev pub kind_of : Status → Kind
kind_of Done = done
kind_of Usage = usage
kind_of ReadFault = read_fault
kind_of WriteFault = write_fault
kind_of InputTooLong = too_long
kind_of Memory = memory
kind_of _ = own

-- A refusal of a program's own comes only where R; running out of memory may come at any point, and
-- no other status comes.
abbrev pub RefusedRow : (Status → Type 0) → Status → Kind → Type 0
RefusedRow R s own = R s
RefusedRow R s memory = ⊤
RefusedRow R s k = ⊥

abbrev pub Refused : (Status → Type 0) → Status → Type 0
Refused R s = RefusedRow R s (kind_of s)

-- what a piece of work returns, as a status
abbrev pub status_in : {A : Type 0} → Result A Status → Status
status_in (Ok a) = Done
status_in (Err s) = s

-- the text that is due for it, where this one is due for what was made
abbrev pub text_in : {A : Type 0} → (A → List ℕ) → Result A Status → List ℕ
text_in due (Ok a) = due a
text_in due (Err s) = error_text s
