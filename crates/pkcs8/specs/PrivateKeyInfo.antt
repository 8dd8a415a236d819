-- PrivateKeyInfo (RFC 5208 section 5), which is OneAsymmetricKey (RFC 5958 section 2): SEQUENCE {
-- version INTEGER { v1(0), v2(1) }, privateKeyAlgorithm AlgorithmIdentifier, privateKey OCTET
-- STRING, attributes [0] OPTIONAL, ..., publicKey [1] BIT STRING OPTIONAL, ... }, with implicit
-- tags.
use Rattle.std.specs.Prelude.{◌≡◌, ℕ, Bool, List, [], ◌∷◌, ◌++◌, Option, Some, None, Ok, nat_lt, ◌==◌, ◌&&◌, ◌||◌}
use Rattle.asn1_core.specs.Der.{el, uint}
use Rattle.asn1_core.specs.declared.identifier.ObjectIdentifier.{ObjectIdentifier}
use Rattle.asn1_core.specs.Reading.{Front, All, ◌>>=◌, where_ok, on, made, many, within, by_tag, uint_at, option_at}
use Rattle.asn1_core.specs.Texts.{Within, ByTag, Many, Perhaps}
use Rattle.spki.specs.declared.algorithm.AlgorithmIdentifier.{AlgorithmIdentifier}
use Rattle.spki.specs.Algorithm.{AlgorithmText, algorithm_at, algorithm_content, SpellsAlgorithm}
use Rattle.pkcs8.specs.declared.private_key_info.PrivateKeyInfo.{PrivateKeyInfo}

-- a private key: its algorithm, the key, and its public key or none
abbrev pub private_key : {V K W : Type 0} → AlgorithmIdentifier V → K → Option W
    → PrivateKeyInfo V K W
private_key a k q = record { algorithm = a; private_key = k; public_key = q }

-- the number of the version: 1 exactly where there is a public key
abbrev pub version_of : {W : Type 0} → Option W → ℕ
version_of None = 0
version_of (Some q) = 1

-- value octets that are not looked at
abbrev pub Skipped : List ℕ → Unit {0} → Type 0
Skipped b u = Unit {0}

-- attributes, whatever they are: an element of the context class (X.690 section 8.1.2) with the
-- number 0, constructed
abbrev pub AttributesText : List ℕ → Unit {0} → Type 0
AttributesText = Within 0xa0 Skipped

-- attributes, or nothing
abbrev pub AreAttributes : List ℕ → Type 0
AreAttributes x = (o : Option (Unit {0})) × Perhaps AttributesText x o

-- the tag octet of a further field: of the context class with a number from 2 to 30, primitive or
-- constructed. The standard leaves room for such fields (RFC 5958 section 2, "...")
abbrev pub is_further : ℕ → Bool
is_further t = (nat_lt 0x81 t && nat_lt t 0x9f) || (nat_lt 0xa1 t && nat_lt t 0xbf)

abbrev pub FurtherText : List ℕ → Unit {0} → Type 0
FurtherText = ByTag is_further (λ t. Skipped)

-- further fields, any number of them
abbrev pub AreFurther : List ℕ → Type 0
AreFurther y = (fs : List (Unit {0})) × Many FurtherText y fs

-- The value octets of a private key, whose parameters have texts by P, whose key has texts by K,
-- and whose public key has value octets by Q, after the tag octet of [1] IMPLICIT, primitive.
abbrev pub PrivateKeyOf : {V K W : Type 0} → (List ℕ → V → Type 0) → (List ℕ → K → Type 0)
    → (List ℕ → W → Type 0) → List ℕ → PrivateKeyInfo V K W → Type 0
PrivateKeyOf P K Q b v = (a : List ℕ) × (k : List ℕ) × (x : List ℕ) × (q : List ℕ) × (y : List ℕ)
    × AlgorithmText P a v.algorithm × K k v.private_key × AreAttributes x
    × Perhaps (Within 0x81 Q) q v.public_key × AreFurther y
    × (b ≡ uint (version_of v.public_key) ++ a ++ k ++ x ++ q ++ y)

abbrev pub PrivateKeyText : {V K W : Type 0} → (List ℕ → V → Type 0) → (List ℕ → K → Type 0)
    → (List ℕ → W → Type 0) → List ℕ → PrivateKeyInfo V K W → Type 0
PrivateKeyText P K Q = Within 0x30 (PrivateKeyOf P K Q)

-- ---- writing

-- the text of a public key, which is seen as a number of unused bits and octets (X.690 section
-- 8.6.2)
abbrev pub public_key_content : {B : Type 0} → (B → ℕ × List ℕ) → Option B → List ℕ
public_key_content bits None = []
public_key_content bits (Some q) = el 0x81 ((bits q).0 ∷ (bits q).1)

-- the value octets that are written: no attributes and no further fields
abbrev pub private_key_content : {A K B : Type 0} → (A → List ℕ) → (K → List ℕ) → (B → ℕ × List ℕ)
    → ObjectIdentifier → Option A → K → Option B → List ℕ
private_key_content canon canon_key bits o p k q =
    uint (version_of q) ++ el 0x30 (algorithm_content canon o p) ++ canon_key k
    ++ public_key_content bits q

-- which texts spell a private key: its version, a spelling of its algorithm and one of its key,
-- attributes or none, its public key, and further fields or none
abbrev pub SpellsPrivateKey : {A K B : Type 0} → (B → ℕ × List ℕ) → (List ℕ → A → Type 0)
    → (List ℕ → K → Type 0) → List ℕ → ObjectIdentifier → Option A → K → Option B → Type 0
SpellsPrivateKey bits spell spell_key b o p k q = (a : List ℕ) × (l : List ℕ) × (x : List ℕ)
    × (y : List ℕ)
    × SpellsAlgorithm spell a o p × spell_key l k × AreAttributes x × AreFurther y
    × (b ≡ el 0x30 (uint (version_of q) ++ a ++ l ++ x ++ public_key_content bits q ++ y))

-- ---- reading

abbrev pub skipped : All (Unit {0})
skipped b = Ok tt

abbrev pub attributes_at : Front (Unit {0})
attributes_at = within 0xa0 skipped

abbrev pub further_at : Front (Unit {0})
further_at = by_tag is_further (λ t. skipped)

-- further fields, to the end
abbrev pub further_of : All (Unit {0})
further_of = made (λ fs. tt) (many further_at)

-- after the place of the public key: the version agrees with it, and further fields follow
abbrev pub ended_further : {A W : Type 0} → ℕ → Option W → A → All A
ended_further n q v b = where_ok (n == version_of q) v >>= λ w. made (λ u. w) further_of b

abbrev pub private_key_of : {V K W : Type 0} → (ℕ → Bool) → Front V → Front K → All W
    → All (PrivateKeyInfo V K W)
private_key_of can p k q = on (uint_at 1) (λ n. on (algorithm_at can p) (λ a. on k (λ l.
    on (option_at (λ t. t == 0xa0) attributes_at) (λ x.
    on (option_at (λ t. t == 0x81) (within 0x81 q))
    (λ w. ended_further n w (private_key a l w))))))

abbrev pub private_key_at : {V K W : Type 0} → (ℕ → Bool) → Front V → Front K → All W
    → Front (PrivateKeyInfo V K W)
private_key_at can p k q = within 0x30 (private_key_of can p k q)
