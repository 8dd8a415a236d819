use Rattle.std.proofs.Common.{◌≡◌, take, true, false}
use Rattle.std.specs.List.{AllPass}
use Rattle.hex.specs.Hex.{is_hex_digit}
use Rattle.frame.proofs.digits.are_digits.Given as goal

abbrev pub invariant-loop-octet : goal.invariant-loop-octet
invariant-loop-octet l = record {
  every : l.all ≡ true → AllPass is_hex_digit (take l.octet-index l.text);
  some : l.all ≡ false → AllPass is_hex_digit l.text → ⊥;
}
