use Rattle.std.proofs.Common.{◌≡◌, ◌++◌, take}
use Rattle.x509_names.proofs.printed.Printed.push_printable.Given as goal

abbrev pub invariant-loop-octet : goal.invariant-loop-octet
invariant-loop-octet l = l.self ≡ l.initial.self ++ take l.octet-index l.octets
