use Rattle.std.proofs.Common.{◌≡◌, ℕ, ◌%◌, ◌<◌, length, get_or}
use Rattle.pkcs12_kdf.proofs.derivation.repeated.Given as goal

abbrev pub invariant-loop-i : goal.invariant-loop-i
invariant-loop-i l = record {
  long : length l.octets ≡ 128;
  done : (k : ℕ) → k < l.i → get_or l.octets k 0 ≡ get_or l.text (k % length l.text) 0;
}
