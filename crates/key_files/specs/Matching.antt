-- Whether a public key is that of a private key, as far as the text of the private key tells.
use Rattle.std.specs.Prelude.{ℕ, ◌≡◌, ◌≢◌, ◌⊎◌, List, Option, Some, None}
use Rattle.std.specs.List.{slice_get}
use Rattle.asn1_core.specs.Gives.{IsNone}
use Rattle.asn1_core.specs.Oid.{oid_octets}
use Rattle.spki.specs.Seen.{AnyPublicKey}
use Rattle.pkcs8.specs.Seen.{AnyPrivateKey}
use Rattle.key_files.specs.Algorithms.{kind_of}
use Rattle.key_files.specs.Ec.{Ec, IsEcPrivateKey}
use Rattle.key_files.specs.Rsa.{Rsa, IsRsaPrivateKey, IsRsaPublicKey}
use Rattle.key_files.specs.declared.algorithms.AlgorithmKind.{AlgorithmKind}
use Rattle.key_files.specs.declared.algorithms.AlgorithmKind.TheVariants as kind
use Rattle.key_files.specs.declared.matching.Match.{Match}
use Rattle.key_files.specs.declared.matching.Match.TheVariants.{Own, Another, Untold}

-- ---- RSA: the private key is told by its octets, the public one q by its number of unused bits and
-- its octets. They belong together where they have the same modulus and exponent.

abbrev pub IsRsaPublicBits : ℕ × List ℕ → Rsa → Type 0
IsRsaPublicBits q n = (q.0 ≡ 0) × IsRsaPublicKey q.1 n

abbrev pub IsRsaMatch : List ℕ → ℕ × List ℕ → Match → Type 0
IsRsaMatch key q Own = (n : Rsa) × IsRsaPrivateKey key n × IsRsaPublicBits q n
IsRsaMatch key q Another = (n : Rsa) × IsRsaPrivateKey key n × (¬ (IsRsaPublicBits q n))
IsRsaMatch key q Untold = IsNone IsRsaPrivateKey key

-- ---- Elliptic curves: by the public key in the private one, if it is there. A point may be written
-- with both coordinates, after an octet 4, or compressed (SEC 1 section 2.3.3).

-- the private key has this public key
abbrev pub HasPoint : List ℕ → ℕ × List ℕ → Type 0
HasPoint key p = (k : Ec) × IsEcPrivateKey key k × (k.public_key ≡ Some p)

abbrev pub AreUncompressed : ℕ × List ℕ → ℕ × List ℕ → Type 0
AreUncompressed p q = (slice_get p.1 0 ≡ Some 4) × (slice_get q.1 0 ≡ Some 4)

abbrev pub IsEcMatch : List ℕ → ℕ × List ℕ → Match → Type 0
IsEcMatch key q Own = HasPoint key q
IsEcMatch key q Another = (p : ℕ × List ℕ) × HasPoint key p × (p ≢ q) × AreUncompressed p q
IsEcMatch key q Untold = ((p : ℕ × List ℕ) → HasPoint key p → ⊥)
    ⊎ ((p : ℕ × List ℕ) × HasPoint key p × (p ≢ q) × (¬ (AreUncompressed p q)))

-- ---- Other algorithms: by the public key beside the private one, if it is there

abbrev pub IsOtherMatch : Option (ℕ × List ℕ) → ℕ × List ℕ → Match → Type 0
IsOtherMatch told q Own = told ≡ Some q
IsOtherMatch told q Another = (p : ℕ × List ℕ) × (told ≡ Some p) × (p ≢ q)
IsOtherMatch told q Untold = told ≡ None

-- ---- Any algorithm

abbrev pub IsMatchBy : AlgorithmKind → AnyPrivateKey → ℕ × List ℕ → Match → Type 0
IsMatchBy kind.Rsa k q m = IsRsaMatch k.private_key q m
IsMatchBy kind.Ec k q m = IsEcMatch k.private_key q m
IsMatchBy kind.Other k q m = IsOtherMatch k.public_key q m

-- A public key of another algorithm is that of another private key.
abbrev pub IsMatch : AnyPrivateKey → AnyPublicKey → Match → Type 0
IsMatch k c m =
    ((oid_octets k.algorithm.oid ≢ oid_octets c.algorithm.oid) × (m ≡ Another))
    ⊎ ((oid_octets k.algorithm.oid ≡ oid_octets c.algorithm.oid)
    × IsMatchBy (kind_of k.algorithm.oid) k c.subject_public_key m)
