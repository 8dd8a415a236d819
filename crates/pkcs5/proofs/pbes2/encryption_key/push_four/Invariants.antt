use Rattle.std.proofs.Common.{◌≡◌, ◌++◌, take}
use Rattle.pkcs5.proofs.pbes2.encryption_key.push_four.Given as goal

abbrev pub invariant-loop-octets : goal.invariant-loop-octets
invariant-loop-octets l = l.keys ≡ l.fn.keys ++ take l.octets-index l.octets-items
