-- What is generated for one key of a sample.
use Rattle.std.specs.Prelude.{◌≡◌, ℕ}
use Rattle.transfer.specs.Sample.{certificate_at, key_at, salt_at}
use Rattle.transfer.specs.declared.sample.material.Material.{Material}

-- these were generated for a key that begins at this state
abbrev pub IsMaterial : ℕ → Material → Type 0
IsMaterial y m = (m.certificate ≡ certificate_at y) × (m.key ≡ key_at y) × (m.salt ≡ salt_at y)
