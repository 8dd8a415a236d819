use Rattle.std.proofs.Common.{◌≡◌, ◌≤◌, ◌+◌, length}
use Rattle.rekey_core.specs.Sealing.{bags_draw}
use Rattle.rekey_core.proofs.Deriving.{KeysOn}
use Rattle.rekey_core.proofs.key_derivation.add_keys.Given as goal

abbrev pub invariant-loop-bag : goal.invariant-loop-bag
invariant-loop-bag l =
    (bags_draw l.to l.rest ≤ length l.left) × (length l.drawn + bags_draw l.to l.rest ≡ bags_draw l.to l.bags + length l.left)
    × KeysOn l.to l.bags l.rest l.drawn l.left l.fn.parts l.parts

abbrev pub decreases-loop-bag : goal.decreases-loop-bag
decreases-loop-bag l = length l.rest
