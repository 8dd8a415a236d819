use Rattle.std.proofs.Common.{◌≡◌, map, take}
use Rattle.rekey_core.specs.declared.key_derivation.RoundsAndSalt.{RoundsAndSalt}
use Rattle.rekey_core.proofs.key_derivation.salts_of.Given as goal

abbrev pub invariant-loop-part : goal.invariant-loop-part
invariant-loop-part l = l.salts ≡ map (λ (p : RoundsAndSalt). p.salt) (take l.part-index l.parts)
