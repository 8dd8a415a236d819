use Rattle.std.proofs.Common.{◌≡◌, length}
use Rattle.std.specs.Prelude.{reverse}
use Rattle.pem_text.specs.Reading.{skip_blanks}
use Rattle.pem_text.proofs.reading.without_end_blanks.Given as goal

abbrev pub invariant-loop-last : goal.invariant-loop-last
invariant-loop-last l = skip_blanks (reverse l.line) ≡ skip_blanks (reverse l.initial.line)

abbrev pub decreases-loop-last : goal.decreases-loop-last
decreases-loop-last l = length l.line
