-- SubjectPublicKeyInfo (RFC 5280 section 4.1.2.7): SEQUENCE { algorithm AlgorithmIdentifier,
-- subjectPublicKey BIT STRING }.
use Rattle.std.specs.Prelude.{◌≡◌, ℕ, Bool, List, ◌++◌, Option}
use Rattle.asn1_core.specs.Der.{el}
use Rattle.asn1_core.specs.declared.identifier.ObjectIdentifier.{ObjectIdentifier}
use Rattle.asn1_core.specs.Reading.{Front, All, on, ended, within}
use Rattle.asn1_core.specs.Texts.{Within}
use Rattle.spki.specs.declared.algorithm.AlgorithmIdentifier.{AlgorithmIdentifier}
use Rattle.spki.specs.declared.subject_public_key_info.SubjectPublicKeyInfo.{SubjectPublicKeyInfo}
use Rattle.spki.specs.Algorithm.{AlgorithmText, algorithm_at, algorithm_content, SpellsAlgorithm}

-- a public key: its algorithm and the key
abbrev pub public_key : {V W : Type 0} → AlgorithmIdentifier V → W → SubjectPublicKeyInfo V W
public_key a k = record { algorithm = a; subject_public_key = k }

-- the value octets of a public key, whose parameters have texts by P and whose key has texts by K
abbrev pub PublicKeyOf : {V W : Type 0} → (List ℕ → V → Type 0) → (List ℕ → W → Type 0) → List ℕ
    → SubjectPublicKeyInfo V W → Type 0
PublicKeyOf P K b v = (a : List ℕ) × (k : List ℕ) × AlgorithmText P a v.algorithm
    × K k v.subject_public_key × (b ≡ a ++ k)

abbrev pub PublicKeyText : {V W : Type 0} → (List ℕ → V → Type 0) → (List ℕ → W → Type 0) → List ℕ
    → SubjectPublicKeyInfo V W → Type 0
PublicKeyText P K = Within 0x30 (PublicKeyOf P K)

-- ---- writing

-- the value octets that are written
abbrev pub public_key_content : {A B : Type 0} → (A → List ℕ) → (B → List ℕ) → ObjectIdentifier
    → Option A → B → List ℕ
public_key_content canon canon_key o p k = el 0x30 (algorithm_content canon o p) ++ canon_key k

-- which texts spell a public key: a spelling of its algorithm, and one of its key
abbrev pub SpellsPublicKey : {A B : Type 0} → (List ℕ → A → Type 0) → (List ℕ → B → Type 0) → List ℕ
    → ObjectIdentifier → Option A → B → Type 0
SpellsPublicKey spell spell_key b o p k = (a : List ℕ) × (q : List ℕ) × SpellsAlgorithm spell a o p
    × spell_key q k × (b ≡ el 0x30 (a ++ q))

-- ---- reading

abbrev pub public_key_of : {V W : Type 0} → (ℕ → Bool) → Front V → Front W
    → All (SubjectPublicKeyInfo V W)
public_key_of can p q = on (algorithm_at can p) (λ a. on q (λ k. ended (public_key a k)))

abbrev pub public_key_at : {V W : Type 0} → (ℕ → Bool) → Front V → Front W
    → Front (SubjectPublicKeyInfo V W)
public_key_at can p q = within 0x30 (public_key_of can p q)
