use Rattle.std.proofs.Common.{◌≡◌, ◌++◌, take, drop, map}
use Rattle.std.specs.Prelude.{bit_xor}
use Rattle.mac_modes.proofs.hmac.mask_all.Given as goal

abbrev pub invariant-loop-octet : goal.invariant-loop-octet
invariant-loop-octet l = l.block ≡ map (λ x. bit_xor x l.mask) (take l.octet-index l.initial.block) ++ drop l.octet-index l.initial.block
