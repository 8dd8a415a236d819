use Rattle.std.specs.List.{flat_map}
use Rattle.asn1_core.specs.Unicode.{char_units}
use Rattle.asn1_core.specs.Writing.{Wrote}
use Rattle.asn1_core.proofs.write_text.write_units.Given as goal

abbrev pub invariant-loop-character : goal.invariant-loop-character
invariant-loop-character g l = Wrote g.W.Writer.sink (flat_map char_units l.yielded) l.fn.w l.w
