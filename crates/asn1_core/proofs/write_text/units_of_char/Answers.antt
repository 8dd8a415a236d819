use Rattle.std.proofs.Common.{arith, ap, sym, ◌∙◌, length}
use Rattle.asn1_core.specs.Unicode.{unit_octets}
use Rattle.asn1_core.proofs.TextLaws.{one_unit, two_units}
use Rattle.asn1_core.proofs.write_text.units_of_char.Goals as goal

pub returns-in-len1-clause-units : goal.returns-in-len1-clause-units
returns-in-len1-clause-units c = sym (one_unit c.encode_utf16.result.now (omega (arith, c.in-len1.len_at_least, c.in-len1.len_below))) ∙ ap unit_octets c.encode_utf16.ensures.value

pub returns-in-len2-clause-units : goal.returns-in-len2-clause-units
returns-in-len2-clause-units c = sym (two_units c.encode_utf16.result.now (omega (arith, c.in-len2.len_at_least, c.in-len2.len_below))) ∙ ap unit_octets c.encode_utf16.ensures.value

pub returns-in-len1-clause-count : goal.returns-in-len1-clause-count
returns-in-len1-clause-count c = sym (ap length (sym (ap unit_octets c.encode_utf16.ensures.value) ∙ one_unit c.encode_utf16.result.now (omega (arith, c.in-len1.len_at_least, c.in-len1.len_below))))

pub returns-in-len2-clause-count : goal.returns-in-len2-clause-count
returns-in-len2-clause-count c = sym (ap length (sym (ap unit_octets c.encode_utf16.ensures.value) ∙ two_units c.encode_utf16.result.now (omega (arith, c.in-len2.len_at_least, c.in-len2.len_below))))
