-- Octets, arcs and text are three forms of one identifier.
use Rattle.std.proofs.Common.{◌≡◌, ℕ, List, ◌∷◌, refl, sym, ap, subst, ◌∙◌, IsTrue}
use Rattle.asn1_core.specs.Identifier.{is_identifier}
use Rattle.asn1_core.specs.Arcs.{HasArcs, IsText, arcs, arcs_text}
use Rattle.asn1_core.proofs.ArcsRead.{arcs_found, arcs_again}
use Rattle.asn1_core.proofs.Words.{one_list}

pub list_found : (o list : List ℕ) → HasArcs o list → IsTrue (is_identifier o) × (list ≡ arcs o)
list_found o list h = let a = arcs_again o list h in (a.0, sym a.1)

pub list_again : (o list : List ℕ) → IsTrue (is_identifier o) × (list ≡ arcs o) → HasArcs o list
list_again o list h = subst (λ (xs : List ℕ). HasArcs o xs) (sym h.1) (arcs_found o h.0)

pub one_identifier : (o p list : List ℕ) → HasArcs o list → HasArcs p list → o ≡ p
one_identifier o p list (a, b, ns, is, two, small, u, o_is, le) (c, d, ms, are, three, tiny, v, p_is, ge) =
    let e : a ∷ b ∷ ns ≡ c ∷ d ∷ ms = sym is ∙ are in
    let x : a ≡ c = cc in
    let y : b ≡ d = cc in
    let z : ns ≡ ms = cc in
    o_is ∙ rw (x, y, z) refl ∙ sym p_is

pub text_found : (t o : List ℕ) → IsText t o → IsTrue (is_identifier o) × (t ≡ arcs_text (arcs o))
text_found t o h = let a = arcs_again o h.0 h.1 in (a.0, h.2 ∙ ap arcs_text (sym a.1))

pub text_again : (t o : List ℕ) → IsTrue (is_identifier o) × (t ≡ arcs_text (arcs o)) → IsText t o
text_again t o h = (arcs o, arcs_found o h.0, h.1)

pub one_reading : (t o p : List ℕ) → IsText t o → IsText t p → o ≡ p
one_reading t o p h i = one_identifier o p h.0 h.1 (subst (λ (xs : List ℕ). HasArcs p xs) (sym (one_list t o p h i)) i.1)
