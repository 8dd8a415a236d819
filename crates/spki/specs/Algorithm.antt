-- AlgorithmIdentifier (RFC 5280 section 4.1.1.2): SEQUENCE { algorithm OBJECT IDENTIFIER,
-- parameters ANY OPTIONAL }.
use Rattle.std.specs.Prelude.{◌≡◌, ℕ, Bool, List, ◌++◌, Option}
use Rattle.der_core.specs.Optional.{canon_option, SpellsOption}
use Rattle.asn1_core.specs.Der.{el, oid}
use Rattle.asn1_core.specs.Oid.{oid_octets}
use Rattle.asn1_core.specs.Reading.{Front, All, on, ended, within, option_at, oid_at}
use Rattle.asn1_core.specs.Texts.{Perhaps, Within}
use Rattle.asn1_core.specs.declared.identifier.ObjectIdentifier.{ObjectIdentifier}
use Rattle.spki.specs.declared.algorithm.AlgorithmIdentifier.{AlgorithmIdentifier}

-- an algorithm: its identifier, and its parameters or none
abbrev pub algorithm : {V : Type 0} → ObjectIdentifier → Option V → AlgorithmIdentifier V
algorithm o p = record { oid = o; parameters = p }

-- the value octets of an algorithm whose parameters have texts by P
abbrev pub AlgorithmOf : {V : Type 0} → (List ℕ → V → Type 0) → List ℕ → AlgorithmIdentifier V
    → Type 0
AlgorithmOf P b v = (p : List ℕ) × Perhaps P p v.parameters × (b ≡ oid (oid_octets v.oid) ++ p)

abbrev pub AlgorithmText : {V : Type 0} → (List ℕ → V → Type 0) → List ℕ → AlgorithmIdentifier V
    → Type 0
AlgorithmText P = Within 0x30 (AlgorithmOf P)

-- ---- writing

-- the value octets that are written
abbrev pub algorithm_content : {A : Type 0} → (A → List ℕ) → ObjectIdentifier → Option A → List ℕ
algorithm_content canon o p = oid (oid_octets o) ++ canon_option canon p

-- which texts spell an algorithm: its identifier, and a spelling of its parameters
abbrev pub SpellsAlgorithm : {A : Type 0} → (List ℕ → A → Type 0) → List ℕ → ObjectIdentifier
    → Option A → Type 0
SpellsAlgorithm spell b o p = (q : List ℕ) × SpellsOption spell q p
    × (b ≡ el 0x30 (oid (oid_octets o) ++ q))

-- ---- reading

abbrev pub algorithm_of : {V : Type 0} → (ℕ → Bool) → Front V → All (AlgorithmIdentifier V)
algorithm_of can p = on oid_at (λ o. on (option_at can p) (λ x. ended (algorithm o x)))

abbrev pub algorithm_at : {V : Type 0} → (ℕ → Bool) → Front V → Front (AlgorithmIdentifier V)
algorithm_at can p = within 0x30 (algorithm_of can p)
