use Rattle.std.proofs.Common.{◌≡◌, ◌+◌, ◌*◌, take}
use Rattle.block_core.specs.AesKey.{expand, AreOctets}
use Rattle.block_core.proofs.aes_key.expand.Given as goal

abbrev pub invariant-loop-i : goal.invariant-loop-i
invariant-loop-i l =
    record { front : take (4 * (l.words + l.i)) l.keys ≡ expand l.words l.key l.i; octets : AreOctets l.keys }
