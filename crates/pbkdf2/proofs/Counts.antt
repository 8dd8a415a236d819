-- The number of blocks of an output.
use Rattle.std.proofs.Common.{ℕ, ◌<◌, ◌≤◌, ◌^◌, arith}
use Rattle.pbkdf2.specs.Pbkdf2.{block_count}
use Rattle.pbkdf2.specs.Algorithm.{output_of}
use Rattle.pbkdf2.specs.declared.algorithm.Algorithm.{Algorithm}
use Rattle.pbkdf2.specs.declared.algorithm.Algorithm.TheVariants.{Pbkdf2Sha256, Pbkdf2Sha512}

-- an output of at most 64 octets has few blocks
pub few_blocks : (a : Algorithm) (n : ℕ) → n ≤ 64 → block_count n (output_of a) < 2 ^ 32
few_blocks Pbkdf2Sha256 n h = omega (arith, h)
few_blocks Pbkdf2Sha512 n h = omega (arith, h)
