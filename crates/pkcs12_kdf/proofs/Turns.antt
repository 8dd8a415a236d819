-- One answer is enough for as many octets as it has.
use Rattle.std.proofs.Common.{◌≡◌, ℕ, ◌*◌, ◌≤◌, ap, ◌∙◌, arith}
use Rattle.std.proofs.Math.Nat.{div-eq_of_lt-le}
use Rattle.pkcs12_kdf.specs.Derivation.{turns}

turns_one : (u : ℕ) → 1 ≤ u → turns u u ≡ 1
turns_one u h = div-eq_of_lt-le {k = 1} u (omega arith) (omega (arith, h))

pub one_turn : (u : ℕ) → 1 ≤ u → (r : ℕ) → r * turns u u ≡ r
one_turn u h r = ap (λ (k : ℕ). r * k) (turns_one u h) ∙ (let one : r * 1 ≡ r = omega arith in one)
