use Rattle.std.proofs.Common.{◌≡◌, ◌*◌, ◌++◌, take, drop, length}
use Rattle.block_core.specs.Des.{round_keys, keys_from}
use Rattle.block_core.specs.DesTables.{left_shifts}
use Rattle.block_core.proofs.Groups.{flat}
use Rattle.block_core.proofs.des.schedule.Given as goal

abbrev pub invariant-loop-i : goal.invariant-loop-i
invariant-loop-i l =
    (length l.keys ≡ 768)
    × (take (48 * l.i) l.keys ++ flat (keys_from (drop l.i left_shifts) l.c l.d) ≡ flat (round_keys l.key))
