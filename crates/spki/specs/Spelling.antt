-- The one text of an algorithm and of a public key whose parts are any elements, and what is read
-- where a text spells a value.
use Rattle.std.specs.Prelude.{◌≡◌, ◌↔◌, ℕ, List, [], ◌∷◌, ◌++◌, Option, Some, None, Ok, IsTrue}
use Rattle.asn1_core.specs.Der.{el, seq, oid, is_tag, IsShort}
use Rattle.asn1_core.specs.Oid.{oid_octets}
use Rattle.asn1_core.specs.Reading.{Front, whole}
use Rattle.spki.specs.Seen.{AnyAlgorithm, AnyPublicKey}

-- parameters, or nothing
abbrev pub parameters_text : Option (ℕ × List ℕ) → List ℕ
parameters_text None = []
parameters_text (Some p) = el p.0 p.1

abbrev pub algorithm_text : AnyAlgorithm → List ℕ
algorithm_text a = seq (oid (oid_octets a.oid) ++ parameters_text a.parameters)

abbrev pub public_key_text : AnyPublicKey → List ℕ
public_key_text k = seq
    (algorithm_text k.algorithm ++ el 0x03 (k.subject_public_key.0 ∷ k.subject_public_key.1))

-- parameters, if there are any, have a tag octet
abbrev pub AreParameters : Option (ℕ × List ℕ) → Type 0
AreParameters None = Unit {0}
AreParameters (Some p) = IsTrue (is_tag p.0)

-- b is read as v exactly where v is writable and b, of at most 2 ^ 32 - 1 octets, spells it
abbrev pub IsReadWhere : {V : Type 0} → Front V → List ℕ → V → Type 0 → Type 0 → Type 0
IsReadWhere at b v writable spells = (whole at b ≡ Ok v) ↔ (writable × spells × IsShort b)

-- where b is read as v, the text c that is written of v is read as v again
abbrev pub IsReadAgain : {V : Type 0} → Front V → List ℕ → V → List ℕ → Type 0
IsReadAgain at b v c = whole at b ≡ Ok v → IsShort c → whole at c ≡ Ok v
