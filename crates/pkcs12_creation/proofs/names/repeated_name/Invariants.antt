use Rattle.std.proofs.Common.{◌≡◌, ◌<◌, ℕ, false}
use Rattle.pkcs12_creation.specs.Names.{repeats}
use Rattle.pkcs12_creation.proofs.names.repeated_name.Given as goal

abbrev pub invariant-loop-place : goal.invariant-loop-place
invariant-loop-place l = (k : ℕ) → k < l.place → repeats l.pairs k ≡ false
