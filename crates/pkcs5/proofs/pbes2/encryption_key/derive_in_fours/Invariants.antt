use Rattle.std.proofs.Common.{◌≡◌, ◌*◌, map, take}
use Rattle.pkcs5.specs.Opening.{sha256_key}
use Rattle.pkcs5.proofs.pbes2.encryption_key.derive_in_fours.Given as goal

abbrev pub invariant-loop-group : goal.invariant-loop-group
invariant-loop-group l = l.keys ≡ map (sha256_key l.rounds l.password) (take (4 * l.group) l.salts)
