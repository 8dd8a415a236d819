-- An algorithm and a public key have one text, and a text one value.
use Rattle.std.proofs.Common.{◌≡◌, ℕ, List, ◌∷◌, ◌++◌, Option, Some, None, refl, sym, ap, subst, ◌∙◌, IsTrue}
use Rattle.std.specs.Prelude.{◌↔◌}
use Rattle.asn1_core.specs.Der.{el, seq, oid, is_tag, IsShort}
use Rattle.asn1_core.specs.Oid.{oid_octets}
use Rattle.asn1_core.specs.Reading.{any_tag, within}
use Rattle.asn1_core.specs.Texts.{Perhaps, Within, seen_option}
use Rattle.asn1_core.specs.declared.identifier.ObjectIdentifier.{ObjectIdentifier}
use Rattle.der_core.specs.Optional.{canon_option}
use Rattle.asn1_core.specs.StandLaws.{whole_sole}
use Rattle.asn1_core.specs.ElementLaws.{within-exact}
use Rattle.der_core.specs.Any.{AnyText, any_at}
use Rattle.der_core.specs.BitString.{is_bits, seen_bits, BitsOf, bits_of}
use Rattle.der_core.specs.StringLaws.{bits_of-exact}
use Rattle.spki.specs.Algorithm.{algorithm, algorithm_content, AlgorithmText, algorithm_at}
use Rattle.spki.specs.AlgorithmLaws.{algorithm-exact}
use Rattle.spki.specs.SubjectPublicKeyInfo.{public_key, PublicKeyText, public_key_at}
use Rattle.spki.specs.PublicKeyLaws.{public_key-exact}
use Rattle.spki.specs.AnyLaws.{any-exact, any-whole}
use Rattle.spki.specs.Seen.{AnyAlgorithm, AnyPublicKey, IsAlgorithm, IsPublicKey}
use Rattle.spki.specs.Spelling.{parameters_text, algorithm_text, public_key_text, AreParameters}

parameters_to : (p : List ℕ) (x : Option (ℕ × List ℕ)) → Perhaps AnyText p x → AreParameters x × (p ≡ parameters_text x)
parameters_to p None r = (tt, r)
parameters_to p (Some y) (t, w, ok, can, is, e) =
    (subst (λ (z : ℕ × List ℕ). IsTrue (is_tag z.0)) (sym is) ok, e ∙ ap (λ (z : ℕ × List ℕ). el z.0 z.1) (sym is))

parameters_from : (x : Option (ℕ × List ℕ)) → AreParameters x → Perhaps AnyText (parameters_text x) x
parameters_from None h = refl
parameters_from (Some y) h = (y.0, y.1, h, refl, refl, refl)

algorithm_to : (b : List ℕ) (a : AnyAlgorithm) → AlgorithmText AnyText b a → AreParameters a.parameters × (b ≡ algorithm_text a)
algorithm_to b a (w, (p, r, is), e) =
    let h = parameters_to p a.parameters r in
    (h.0, e ∙ ap (λ (l : List ℕ). seq l) (is ∙ ap (λ (l : List ℕ). oid (oid_octets a.oid) ++ l) h.1))

algorithm_from : (a : AnyAlgorithm) → AreParameters a.parameters → AlgorithmText AnyText (algorithm_text a) a
algorithm_from a h = (oid (oid_octets a.oid) ++ parameters_text a.parameters, (parameters_text a.parameters, parameters_from a.parameters h, refl), refl)

pub algorithms_spelled : (b : List ℕ) (a : AnyAlgorithm) → IsAlgorithm b a ↔ (AreParameters a.parameters × (b ≡ algorithm_text a) × IsShort b)
algorithms_spelled b a = (
  λ h. let t = algorithm_to b a h.0 in (t.0, t.1, h.1),
  λ h. (subst (λ (l : List ℕ). AlgorithmText AnyText l a) (sym h.1) (algorithm_from a h.0), h.2),
)

-- what is written of parameters, and of an algorithm, whose parameters are seen as any element
written_parameters : {A : Type 0} (seen : A → ℕ × List ℕ) (p : Option A) → canon_option (λ a. el (seen a).0 (seen a).1) p ≡ parameters_text (seen_option seen p)
written_parameters seen None = refl
written_parameters seen (Some a) = refl

pub algorithm_written : {A : Type 0} (seen : A → ℕ × List ℕ) (o : ObjectIdentifier) (p : Option A)
    → el 0x30 (algorithm_content (λ a. el (seen a).0 (seen a).1) o p) ≡ algorithm_text (algorithm o (seen_option seen p))
algorithm_written seen o p = ap (λ (l : List ℕ). seq (oid (oid_octets o) ++ l)) (written_parameters seen p)

pub public_key_written : {A : Type 0} (seen : A → ℕ × List ℕ) (o : ObjectIdentifier) (p : Option A) (u : ℕ) (k : List ℕ)
    → el 0x30 (el 0x30 (algorithm_content (λ a. el (seen a).0 (seen a).1) o p) ++ el 0x03 (u ∷ k)) ≡ public_key_text (public_key (algorithm o (seen_option seen p)) (seen_bits u k))
public_key_written seen o p u k = ap (λ (l : List ℕ). seq (l ++ el 0x03 (u ∷ k))) (algorithm_written seen o p)

key_to : (b : List ℕ) (k : AnyPublicKey) → PublicKeyText AnyText (Within 0x03 BitsOf) b k → AreParameters k.algorithm.parameters × IsTrue (is_bits k.subject_public_key.0 k.subject_public_key.1) × (b ≡ public_key_text k)
key_to b k (w, (a, q, r, (v, (bits, same), f), is), e) =
    let h = algorithm_to a k.algorithm r in
    let key : q ≡ el 0x03 (k.subject_public_key.0 ∷ k.subject_public_key.1) = f ∙ ap (λ (l : List ℕ). el 0x03 l) same in
    (h.0, bits, e ∙ ap (λ (l : List ℕ). seq l) (is ∙ ap (λ (l : List ℕ). l ++ q) h.1 ∙ ap (λ (l : List ℕ). algorithm_text k.algorithm ++ l) key))

key_from : (k : AnyPublicKey) → AreParameters k.algorithm.parameters → IsTrue (is_bits k.subject_public_key.0 k.subject_public_key.1) → PublicKeyText AnyText (Within 0x03 BitsOf) (public_key_text k) k
key_from k h bits = (
  algorithm_text k.algorithm ++ el 0x03 (k.subject_public_key.0 ∷ k.subject_public_key.1),
  (algorithm_text k.algorithm, el 0x03 (k.subject_public_key.0 ∷ k.subject_public_key.1), algorithm_from k.algorithm h, (k.subject_public_key.0 ∷ k.subject_public_key.1, (bits, refl), refl), refl),
  refl,
)

pub public_keys_spelled : (b : List ℕ) (k : AnyPublicKey)
    → IsPublicKey b k ↔ (AreParameters k.algorithm.parameters × IsTrue (is_bits k.subject_public_key.0 k.subject_public_key.1) × (b ≡ public_key_text k) × IsShort b)
public_keys_spelled b k = (
  λ h. let t = key_to b k h.0 in (t.0, t.1, t.2, h.1),
  λ h. (subst (λ (l : List ℕ). PublicKeyText AnyText (Within 0x03 BitsOf) l k) (sym h.2) (key_from k h.0 h.1), h.3),
)

pub one_algorithm : (b : List ℕ) (a c : AnyAlgorithm) → IsAlgorithm b a → IsAlgorithm b c → a ≡ c
one_algorithm = whole_sole (AlgorithmText AnyText) (algorithm_at any_tag any_at) (algorithm-exact any_tag AnyText any_at any-exact any-whole)

pub one_public_key : (b : List ℕ) (k l : AnyPublicKey) → IsPublicKey b k → IsPublicKey b l → k ≡ l
one_public_key = whole_sole (PublicKeyText AnyText (Within 0x03 BitsOf)) (public_key_at any_tag any_at (within 0x03 bits_of))
    (public_key-exact any_tag AnyText any_at any-exact any-whole (Within 0x03 BitsOf) (within 0x03 bits_of) (within-exact 0x03 BitsOf bits_of refl bits_of-exact))
