use Rattle.std.proofs.Common.{◌≡◌, ◌<◌, ◌≤◌, ◌-◌, length, take}
use Rattle.std.specs.Prelude.{All}
use Rattle.rekey_core.specs.declared.key_derivation.RoundsAndSalt.{RoundsAndSalt}
use Rattle.rekey_core.proofs.key_derivation.run_length.Given as goal

abbrev pub invariant-loop-number : goal.invariant-loop-number
invariant-loop-number l =
    (0 < l.number) × (l.number ≤ length l.parts) × All (λ (p : RoundsAndSalt). p.rounds ≡ l.rounds) (take l.number l.parts)

abbrev pub decreases-loop-number : goal.decreases-loop-number
decreases-loop-number l = length l.parts - l.number
