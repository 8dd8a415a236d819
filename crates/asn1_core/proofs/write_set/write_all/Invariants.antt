use Rattle.std.proofs.Common.{take, map}
use Rattle.asn1_core.specs.Der.{joined}
use Rattle.asn1_core.specs.Writing.{Wrote}
use Rattle.asn1_core.proofs.write_set.write_all.Given as goal

abbrev pub invariant-loop-text : goal.invariant-loop-text
invariant-loop-text g l = Wrote g.W.Writer.sink (joined (map (λ t. t.now) (take l.text-index l.texts))) l.fn.w l.w
