use Rattle.std.proofs.Common.{◌≡◌, true, false, true≢false, inr, refl, sym, ◌∙◌}
use Rattle.spki.proofs.algorithm.AlgorithmIdentifierRef.oids.Goals as goal

pub returns-in_ok-element_oid-in-Some : goal.returns-in_ok-element_oid-in-Some
returns-in_ok-element_oid-in-Some c = rw c.in-Some.is (inr ((λ n. let e : true ≡ false = sym (c.is_null.ensures.1 n) ∙ c.if-is_null.false in true≢false e), (c.in_ok-element_oid-in-Some.field-0, c.in_ok-element_oid-in-Some.ensures, refl)))
