-- When keys belong together.
use Rattle.std.proofs.Common.{◌≡◌, ◌≢◌, ℕ, Bool, true, false, List, Option, Some, None, nat_eq, sym, ap, ◌∙◌, subst, inl, inr}
use Rattle.std.specs.Prelude.{◌&&◌, ◌↔◌, IsTrue}
use Rattle.std.specs.Cmp.Lexicographic.{pointwise}
use Rattle.std.specs.List.{slice_get}
use Rattle.asn1_core.specs.Gives.{IsNone}
use Rattle.asn1_core.specs.Oid.{oid_octets}
use Rattle.der_core.specs.BitString.{seen_bits}
use Rattle.der_core.specs.SameLaws.{bits_same}
use Rattle.spki.specs.Seen.{AnyPublicKey}
use Rattle.pkcs8.specs.Seen.{AnyPrivateKey}
use Rattle.key_files.specs.Algorithms.{kind_of}
use Rattle.key_files.specs.Ec.{Ec, IsEcPrivateKey}
use Rattle.key_files.specs.Matching.{AreUncompressed, IsEcMatch, IsMatch, IsMatchBy, IsRsaMatch}
use Rattle.key_files.specs.Rsa.{Rsa, IsRsaPrivateKey, IsRsaPublicKey, rsa}
use Rattle.key_files.specs.declared.algorithms.AlgorithmKind.TheVariants as kind
use Rattle.key_files.specs.declared.matching.Match.{Match}
use Rattle.key_files.specs.declared.matching.Match.TheVariants.{Own, Another, Untold}
use Rattle.key_files.proofs.KeyTexts.{ec_sole, rsa_public_sole}

pub rsa_equal : (a b c d : List ℕ) → a ≡ c → b ≡ d → rsa a b ≡ rsa c d
rsa_equal a b c d p q = ap (λ x. rsa x b) p ∙ ap (λ y. rsa c y) q

pub rsa_own : (key : List ℕ) (q : ℕ × List ℕ) (n m : Rsa) → IsRsaPrivateKey key n → q.0 ≡ 0 → IsRsaPublicKey q.1 m → n ≡ m → IsRsaMatch key q Own
rsa_own key q n m k zero p same = (n, k, (zero, subst (IsRsaPublicKey q.1) (sym same) p))

pub rsa_bits : (key : List ℕ) (q : ℕ × List ℕ) (n : Rsa) → IsRsaPrivateKey key n → q.0 ≢ 0 → IsRsaMatch key q Another
rsa_bits key q n k bits = (n, k, λ b. bits b.0)

pub rsa_none : (key : List ℕ) (q : ℕ × List ℕ) (n : Rsa) → IsRsaPrivateKey key n → IsNone IsRsaPublicKey q.1 → IsRsaMatch key q Another
rsa_none key q n k none = (n, k, λ b. none n b.1)

pub rsa_another : (key : List ℕ) (q : ℕ × List ℕ) (n m : Rsa) → IsRsaPrivateKey key n → IsRsaPublicKey q.1 m → n ≢ m → IsRsaMatch key q Another
rsa_another key q n m k p apart = (n, k, λ b. apart (rsa_public_sole q.1 n m b.1 p))

pub ec_unread : (key : List ℕ) (q : ℕ × List ℕ) → IsNone IsEcPrivateKey key → IsEcMatch key q Untold
ec_unread key q none = inl (λ p h. none h.0 h.1)

absent : (p : ℕ × List ℕ) (o : Option (ℕ × List ℕ)) → o ≡ None → o ≡ Some p → ⊥
absent p o e h = cc

pub ec_absent : (key : List ℕ) (q : ℕ × List ℕ) (k : Ec) → IsEcPrivateKey key k → k.public_key ≡ None → IsEcMatch key q Untold
ec_absent key q k is none = inl (λ p h. absent p k.public_key none (ap (λ (x : Ec). x.public_key) (ec_sole key k h.0 is h.1) ∙ h.2))

pub ec_own : (key : List ℕ) (p q : ℕ × List ℕ) (k : Ec) → IsEcPrivateKey key k → k.public_key ≡ Some p → p ≡ q → IsEcMatch key q Own
ec_own key p q k is has same = (k, is, has ∙ ap Some same)

pub ec_another : (key : List ℕ) (p q : ℕ × List ℕ) (k : Ec) → IsEcPrivateKey key k → k.public_key ≡ Some p → p ≢ q → AreUncompressed p q → IsEcMatch key q Another
ec_another key p q k is has apart both = (p, (k, is, has), apart, both)

pub ec_compressed : (key : List ℕ) (p q : ℕ × List ℕ) (k : Ec) → IsEcPrivateKey key k → k.public_key ≡ Some p → p ≢ q → (AreUncompressed p q → ⊥) → IsEcMatch key q Untold
ec_compressed key p q k is has apart some = inr (p, (k, is, has), apart, some)

-- equal BIT STRINGs, and others
pub bits_equal : (t u : ℕ) (v w : List ℕ) → (nat_eq t u && pointwise nat_eq v w) ≡ true → seen_bits t v ≡ seen_bits u w
bits_equal t u v w h = (bits_same t u v w).1 h

pub bits_apart : (t u : ℕ) (v w : List ℕ) → (nat_eq t u && pointwise nat_eq v w) ≡ false → seen_bits t v ≢ seen_bits u w
bits_apart t u v w h e =
    let told : (nat_eq t u && pointwise nat_eq v w) ≡ true = (bits_same t u v w).0 e in
    cc

-- keys of one algorithm
pub rsa_by : (k : AnyPrivateKey) (c : AnyPublicKey) (m : Match) (key : List ℕ) → oid_octets k.algorithm.oid ≡ oid_octets c.algorithm.oid → kind_of k.algorithm.oid ≡ kind.Rsa → key ≡ k.private_key
    → IsRsaMatch key c.subject_public_key m → IsMatch k c m
rsa_by k c m key same is e h = inr (same, subst (λ x. IsMatchBy x k c.subject_public_key m) (sym is) (subst (λ l. IsRsaMatch l c.subject_public_key m) e h))

pub ec_by : (k : AnyPrivateKey) (c : AnyPublicKey) (m : Match) (key : List ℕ) → oid_octets k.algorithm.oid ≡ oid_octets c.algorithm.oid → kind_of k.algorithm.oid ≡ kind.Ec → key ≡ k.private_key
    → IsEcMatch key c.subject_public_key m → IsMatch k c m
ec_by k c m key same is e h = inr (same, subst (λ x. IsMatchBy x k c.subject_public_key m) (sym is) (subst (λ l. IsEcMatch l c.subject_public_key m) e h))

-- the first octet of a point, by a test of it
pub first_is : (b : Bool) (v w : List ℕ) → b ≡ true → IsTrue b ↔ (slice_get v 0 ≡ Some 4) → v ≡ w → slice_get w 0 ≡ Some 4
first_is b v w t h e = subst (λ l. slice_get l 0 ≡ Some 4) e (h.0 t)

pub first_differs : (b : Bool) (v w : List ℕ) → b ≡ false → IsTrue b ↔ (slice_get v 0 ≡ Some 4) → v ≡ w → slice_get w 0 ≡ Some 4 → ⊥
first_differs b v w f h e is =
    let yes : b ≡ true = h.1 (subst (λ l. slice_get l 0 ≡ Some 4) (sym e) is) in
    cc
