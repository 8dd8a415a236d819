use Rattle.std.proofs.Common.{◌≡◌, ◌++◌, take, flat_map}
use Rattle.x509_names.specs.HexText.{two_digits}
use Rattle.x509_names.proofs.printed.Printed.push_hex.Given as goal

abbrev pub invariant-loop-octet : goal.invariant-loop-octet
invariant-loop-octet l = l.self ≡ l.initial.self ++ flat_map two_digits (take l.octet-index l.octets)
