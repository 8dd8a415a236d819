use Rattle.std.proofs.Common.{◌≡◌, drop}
use Rattle.asn1_core.specs.Unicode.{is_ascii_text}
use Rattle.p12.proofs.cert_bag.are_ascii.Given as goal

abbrev pub invariant-loop-octet : goal.invariant-loop-octet
invariant-loop-octet l = is_ascii_text l.octets ≡ is_ascii_text (drop l.octet-index l.octets)
