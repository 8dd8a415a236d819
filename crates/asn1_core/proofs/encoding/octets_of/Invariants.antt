use Rattle.std.proofs.Common.{◌≡◌, ◌≤◌, ◌++◌, ◌∷◌, drop, take}
use Rattle.asn1_core.specs.Identifier.{subs}
use Rattle.asn1_core.proofs.encoding.octets_of.Given as goal

abbrev pub invariant-loop-n : goal.invariant-loop-n
invariant-loop-n l = (l.used ≤ 39) × (subs (l.first ∷ l.rest) ≡ take l.used l.kept ++ subs (drop l.n-index l.rest))
