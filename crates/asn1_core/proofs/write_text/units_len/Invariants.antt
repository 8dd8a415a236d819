use Rattle.std.proofs.Common.{◌≡◌, ◌≤◌, length}
use Rattle.std.specs.List.{flat_map}
use Rattle.asn1_core.specs.Unicode.{char_units}
use Rattle.asn1_core.proofs.write_text.units_len.Given as goal

abbrev pub invariant-loop-character : goal.invariant-loop-character
invariant-loop-character l = (l.total ≡ length (flat_map char_units l.yielded)) × (l.total ≤ 4294967295)
