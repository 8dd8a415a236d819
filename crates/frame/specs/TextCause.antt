-- When the text of the input is refused.
use Rattle.std.specs.Prelude.{⊤}
use Rattle.frame.specs.declared.input_text.TextError.{TextError}
use Rattle.frame.specs.declared.input_text.TextError.TheVariants.{Malformed, Memory}

-- Malformed comes only where P. Running out of memory may come at any point.
abbrev pub MalformedOnly : TextError → Type 0 → Type 0
MalformedOnly Malformed P = P
MalformedOnly Memory P = ⊤
