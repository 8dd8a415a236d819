-- What is seen of algorithms and public keys whose parts are any elements: each element by its tag
-- octet and its value, the key by its number of unused bits and its octets. The borrowed forms and
-- those in memory of their own are seen alike.
use Rattle.std.specs.Prelude.{ℕ, List}
use Rattle.asn1_core.specs.Der.{IsShort}
use Rattle.asn1_core.specs.Texts.{seen_option, Within}
use Rattle.der_core.specs.Any.{seen_any, AnyText}
use Rattle.der_core.specs.BitString.{BitsOf}
use Rattle.der_core.specs.declared.any.Any.{Any}
use Rattle.der_core.specs.declared.any_ref.AnyRef.{AnyRef}
use Rattle.spki.specs.declared.algorithm.AlgorithmIdentifier.{AlgorithmIdentifier}
use Rattle.spki.specs.declared.subject_public_key_info.SubjectPublicKeyInfo.{SubjectPublicKeyInfo}
use Rattle.spki.specs.Algorithm.{algorithm, AlgorithmText}
use Rattle.spki.specs.SubjectPublicKeyInfo.{public_key, PublicKeyText}

abbrev pub AnyAlgorithm : Type 0
AnyAlgorithm = AlgorithmIdentifier (ℕ × List ℕ)

abbrev pub AnyPublicKey : Type 0
AnyPublicKey = SubjectPublicKeyInfo (ℕ × List ℕ) (ℕ × List ℕ)

abbrev pub borrowed_any : AnyRef → ℕ × List ℕ
borrowed_any a = seen_any a.tag.first a.value.now

abbrev pub owned_any : Any → ℕ × List ℕ
owned_any a = seen_any a.tag.first a.value

abbrev pub borrowed_algorithm : AlgorithmIdentifier AnyRef → AnyAlgorithm
borrowed_algorithm a = algorithm a.oid (seen_option borrowed_any a.parameters)

abbrev pub owned_algorithm : AlgorithmIdentifier Any → AnyAlgorithm
owned_algorithm a = algorithm a.oid (seen_option owned_any a.parameters)

-- of a public key by what is seen of its parameters and of its key
abbrev pub seen_public_key : {P K : Type 0} → (P → ℕ × List ℕ) → (K → ℕ × List ℕ)
    → SubjectPublicKeyInfo P K → AnyPublicKey
seen_public_key p k v =
    public_key (algorithm v.algorithm.oid (seen_option p v.algorithm.parameters))
    (k v.subject_public_key)

-- b is a text of the algorithm, of at most 2 ^ 32 - 1 octets
abbrev pub IsAlgorithm : List ℕ → AnyAlgorithm → Type 0
IsAlgorithm b v = AlgorithmText AnyText b v × IsShort b

-- b is a text of the public key, of at most 2 ^ 32 - 1 octets
abbrev pub IsPublicKey : List ℕ → AnyPublicKey → Type 0
IsPublicKey b v = PublicKeyText AnyText (Within 0x03 BitsOf) b v × IsShort b
