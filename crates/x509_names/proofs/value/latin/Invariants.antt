use Rattle.std.proofs.Common.{◌≡◌, string_bytes, take}
use Rattle.std.specs.Str.{encode_utf8_all}
use Rattle.x509_names.proofs.value.latin.Given as goal

abbrev pub invariant-loop-octet : goal.invariant-loop-octet
invariant-loop-octet l = string_bytes l.text ≡ encode_utf8_all (take l.octet-index l.octets)
