use Rattle.std.proofs.Common.{◌≡◌}
use Rattle.std.specs.List.{flat_map}
use Rattle.pkcs12_kdf.specs.Password.{units_of_char}
use Rattle.pkcs12_kdf.proofs.password.utf16_password.Given as goal

abbrev pub invariant-loop-character : goal.invariant-loop-character
invariant-loop-character l = l.octets.items ≡ flat_map units_of_char l.yielded
