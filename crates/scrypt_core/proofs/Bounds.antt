-- The bounds of the costs.
use Rattle.std.proofs.Common.{◌≡◌, inl, inr, ℕ, ◌*◌, ◌^◌, ◌<◌, ◌≤◌, arith}
use Rattle.std.proofs.lemmas.Bool.{cases_lt}
use Rattle.std.proofs.Math.Nat.{mul_assoc, mul-le-mul_right}
use Rattle.std.proofs.Math.Pow.{pow_mono}
use Rattle.scrypt_core.specs.Params.{Lawful}

pub too_large : (n r p : ℕ) → 55 < n → Lawful n r p → ⊥
too_large n r p h is =
    let up : 56 ≤ n = omega (arith, h) in
    let y : ℕ = 2 ^ n in
    let low : 2 ^ 56 ≤ y = pow_mono up in
    let some : 1 * y ≤ r * y = mul-le-mul_right y is.some_blocks in
    let same : 128 * r * y ≡ 128 * (r * y) = mul_assoc 128 r y in
    let m : 128 * r * y < 2 ^ 63 = is.memory in
    omega (arith, low, some, same, m)

-- what the bound on the memory says of the number of turns
pub few_turns : (n r p : ℕ) → Lawful n r p → n ≤ 55
few_turns n r p is = elim (cases_lt 55 n) [
  | inl more ↦ absurd (too_large n r p more is)
  | inr few ↦ few
]
