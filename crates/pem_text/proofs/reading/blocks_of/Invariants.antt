use Rattle.std.proofs.Common.{◌≡◌, length}
use Rattle.pem_text.specs.Reading.{blocks, lines, outcome}
use Rattle.pem_text.proofs.reading.blocks_of.Given as goal

abbrev pub invariant-loop-rest : goal.invariant-loop-rest
invariant-loop-rest l = blocks l.fn.text ≡ outcome (lines l.rest) l.blocks.items l.part

abbrev pub decreases-loop-rest : goal.decreases-loop-rest
decreases-loop-rest l = length l.rest
