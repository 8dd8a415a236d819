-- lemmas only: nothing to believe here
-- The algorithm of a constant is that of the ghost beside it, where both have the same octets.
use Rattle.std.proofs.Common.{◌≡◌, Option, Some, ap, ◌∙◌}
use Rattle.asn1_core.specs.Oid.{oid_octets, same_oid}
use Rattle.asn1_core.specs.declared.identifier.ObjectIdentifier.{ObjectIdentifier}
use Rattle.spki.specs.Algorithm.{algorithm}

pub same_algorithm : {P : Type 0} (o q : ObjectIdentifier) (x y : Option P) → oid_octets o ≡ oid_octets q → x ≡ y → algorithm o x ≡ algorithm q y
same_algorithm {P} o q x y e f = ap (λ (i : ObjectIdentifier). algorithm i x) (same_oid o q e) ∙ ap (λ (p : Option P). algorithm q p) f

pub same_parameters : (p q : ObjectIdentifier) → oid_octets p ≡ oid_octets q → Some p ≡ Some q
same_parameters p q e = ap (λ (i : ObjectIdentifier). Some i) (same_oid p q e)
