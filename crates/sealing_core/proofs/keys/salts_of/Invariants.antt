use Rattle.std.proofs.Common.{◌≡◌, map, take}
use Rattle.sealing_core.proofs.keys.salts_of.Given as goal

abbrev pub invariant-loop-one : goal.invariant-loop-one
invariant-loop-one l = l.salts ≡ map (λ d. d.salt) (take l.one-index l.drawn)
