-- How the refusals of a mode are printed.
use Rattle.std.specs.Prelude.{ℕ, List, codes}
use Rattle.mac_modes.specs.declared.mode_error.ModeError.{ModeError}
use Rattle.mac_modes.specs.declared.mode_error.ModeError.TheVariants.{NoRoom, BadLength, BadPadding, BadTag}

-- a refusal is printed as its name
abbrev pub mode_error_text : ModeError → List ℕ
mode_error_text NoRoom = codes "NoRoom"
mode_error_text BadLength = codes "BadLength"
mode_error_text BadPadding = codes "BadPadding"
mode_error_text BadTag = codes "BadTag"
