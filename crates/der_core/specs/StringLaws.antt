-- lemmas only: nothing to believe here
-- Strings, bit strings, NULL, numbers and identifiers: they are read exactly, and have one spelling each.
use Rattle.std.specs.Prelude.{◌↔◌}
use Rattle.std.proofs.Common.{◌≡◌, ℕ, ◌≤◌, ◌<◌, length, arith, rules, List, [], ◌∷◌, Ok, refl, sym, ap, subst, ◌∙◌, IsTrue}
use Rattle.asn1_core.specs.Der.{el, shortest, IsHeader}
use Rattle.asn1_core.specs.Identifier.{is_identifier}
use Rattle.asn1_core.specs.ElementLaws.{len_small}
use Rattle.asn1_core.specs.Oid.{oid_octets}
use Rattle.asn1_core.specs.Texts.{ExactAll, Within, Ended, Left, UintOf, OidOf}
use Rattle.asn1_core.specs.ExactLaws.{where_holds, where_true}
use Rattle.asn1_core.specs.declared.identifier.ObjectIdentifier.{ObjectIdentifier}
use Rattle.der_core.specs.BitString.{is_bits, seen_bits, bits_of, BitsOf}
use Rattle.der_core.specs.Null.{nothing}

bits_found : (b : List ℕ) (v : ℕ × List ℕ) → bits_of b ≡ Ok v → BitsOf b v
bits_found [] v e = absurd cc
bits_found (u ∷ o) v e = let w = where_holds (is_bits u o) (seen_bits u o) v e in subst (λ (x : ℕ × List ℕ). IsTrue (is_bits x.0 x.1) × (u ∷ o ≡ x.0 ∷ x.1)) w.1 (w.0, refl)

pub bits_of-exact : ExactAll BitsOf bits_of
bits_of-exact = record { found = bits_found; again = λ b v r short. rw (r.1) (where_true (is_bits v.0 v.1) v r.0) }

pub bits_canonical : (u : ℕ) (o : List ℕ) → IsTrue (is_bits u o) → Within 3 BitsOf (el 3 (u ∷ o)) (u, o)
bits_canonical u o h = (u ∷ o, (h, refl), refl)

pub bits_spelled : (u : ℕ) (o b : List ℕ) → IsTrue (is_bits u o) → Within 3 BitsOf b (u, o) ↔ (Unit {0} × (b ≡ el 3 (u ∷ o)))
bits_spelled u o b ok = (
  λ r. (tt, r.2 ∙ ap (λ (l : List ℕ). el 3 l) r.1.1),
  λ h. (u ∷ o, (ok, refl), h.1),
)

pub octets_canonical : (o : List ℕ) → Within 4 Left (el 4 o) o
octets_canonical o = (o, refl, refl)

pub octets_spelled : (o b : List ℕ) → Within 4 Left b o ↔ (Unit {0} × (b ≡ el 4 o))
octets_spelled o b = (
  λ r. (tt, r.2 ∙ ap (λ (l : List ℕ). el 4 l) (sym r.1)),
  λ h. (o, refl, h.1),
)

pub null_canonical : Within 5 (Ended nothing) (el 5 []) nothing
null_canonical = ([], (refl, refl), refl)

pub null_spelled : (b : List ℕ) → Within 5 (Ended nothing) b nothing ↔ (Unit {0} × (b ≡ el 5 []))
null_spelled b = (
  λ r. (tt, r.2 ∙ ap (λ (l : List ℕ). el 5 l) r.1.0),
  λ h. ([], (refl, refl), h.1),
)

pub uint_canonical : (max n : ℕ) → n ≤ max → Within 2 (UintOf max) (el 2 (shortest n)) n
uint_canonical max n h = (shortest n, (h, refl), refl)

pub uint_spelled : (max : ℕ) (b : List ℕ) (n : ℕ) → Within 2 (UintOf max) b n ↔ ((n ≤ max) × (b ≡ el 2 (shortest n)))
uint_spelled max b n = (
  λ r. (r.1.0, r.2 ∙ ap (λ (l : List ℕ). el 2 l) r.1.1),
  λ h. (shortest n, (h.0, refl), h.1),
)

pub oid_canonical : (o : ObjectIdentifier) → Within 6 OidOf (el 6 (oid_octets o)) o
oid_canonical o = (oid_octets o, refl, refl)

pub oid_spelled : (o : ObjectIdentifier) (b : List ℕ) → Within 6 OidOf b o ↔ (Unit {0} × (b ≡ el 6 (oid_octets o)))
oid_spelled o b = (
  λ r. (tt, r.2 ∙ ap (λ (l : List ℕ). el 6 l) r.1),
  λ h. (oid_octets o, refl, h.1),
)

-- a short value makes a short element
pub small_header : (n : ℕ) → n < 128 → IsHeader n
small_header n h = rw (len_small n h) (omega arith)

pub identifier_header : (v : List ℕ) → IsTrue (is_identifier v) → IsHeader (length v)
identifier_header v h = small_header (length v) (below v h)
  where
    below : (v : List ℕ) → IsTrue (is_identifier v) → length v < 128
    below v h = Prim.search rules
