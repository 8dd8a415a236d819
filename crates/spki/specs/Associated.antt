-- Algorithms with parameters of a type, as algorithms with any parameters.
use Rattle.std.specs.Prelude.{◌≡◌, ℕ, List, length, Option, Some, None}
use Rattle.asn1_core.specs.Der.{el}
use Rattle.asn1_core.specs.Texts.{seen_option}
use Rattle.asn1_core.specs.Writing.{Cause, IsOverlong}
use Rattle.asn1_core.specs.declared.error.Error.{Error as Below}
use Rattle.der_core.specs.Any.{seen_any}
use Rattle.spki.specs.declared.algorithm.AlgorithmIdentifier.{AlgorithmIdentifier}
use Rattle.spki.specs.declared.error.Error.{Error}
use Rattle.spki.specs.Algorithm.{algorithm}
use Rattle.spki.specs.Error.{raised}
use Rattle.spki.specs.Seen.{AnyAlgorithm}

-- the same algorithm, its parameters by the tag octet and the value of their text
abbrev pub as_any : {P : Type 0} → (P → ℕ) → (P → List ℕ) → AlgorithmIdentifier P → AnyAlgorithm
as_any tag content a =
    algorithm a.oid (seen_option (λ p. seen_any (tag p) (content p)) a.parameters)

-- why the parameters are not written into memory
abbrev pub Unwritten : {P : Type 0} → (P → ℕ) → (P → List ℕ) → (P → Type 0) → Option P → Below
    → Type 0
Unwritten tag content writable None f = ⊥
Unwritten tag content writable (Some p) f =
    Cause (¬ (writable p)) (IsOverlong (length (el (tag p) (content p)))) (Unit {0}) None 0 0 0 f

abbrev pub IsUnwritten : {P : Type 0} → (P → ℕ) → (P → List ℕ) → (P → Type 0)
    → AlgorithmIdentifier P → Error → Type 0
IsUnwritten tag content writable a e = (f : Below) × (e ≡ raised f)
    × Unwritten tag content writable a.parameters f
