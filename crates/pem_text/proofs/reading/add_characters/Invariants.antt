use Rattle.std.proofs.Common.{◌≡◌, ◌++◌, take}
use Rattle.std.specs.Prelude.{filter}
use Rattle.pem_text.specs.Reading.{is_character}
use Rattle.pem_text.proofs.reading.add_characters.Given as goal

abbrev pub invariant-loop-c : goal.invariant-loop-c
invariant-loop-c l = l.body ≡ l.initial.body ++ filter is_character (take l.c-index l.line)
