use Rattle.std.proofs.Common.{ℕ, ◌<◌, ◌≡◌, ◌^◌}
use Rattle.pkcs5.proofs.pbes2.scrypt_params.log_of.Given as goal

abbrev pub invariant-loop-k : goal.invariant-loop-k
invariant-loop-k l = (j : ℕ) → j < l.k → 2 ^ j ≡ l.fn.cost → ⊥
