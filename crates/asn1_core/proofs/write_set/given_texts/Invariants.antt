use Rattle.std.proofs.Common.{◌≡◌, take, map}
use Rattle.asn1_core.proofs.write_set.given_texts.Given as goal

abbrev pub invariant-loop-element : goal.invariant-loop-element
invariant-loop-element l = map (λ t. t.now) l.texts.items ≡ take l.element-index l.elements
