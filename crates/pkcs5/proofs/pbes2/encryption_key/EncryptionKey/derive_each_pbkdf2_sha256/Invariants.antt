use Rattle.std.proofs.Common.{◌≡◌, map, take}
use Rattle.pkcs5.specs.Opening.{sha256_key}
use Rattle.pkcs5.proofs.pbes2.encryption_key.EncryptionKey.derive_each_pbkdf2_sha256.Given as goal

abbrev pub invariant-loop-index : goal.invariant-loop-index
invariant-loop-index l = l.keys ≡ map (sha256_key l.rounds l.password) (take l.index l.salts)
