-- When a text is refused.
use Rattle.std.specs.Prelude.{codes, ◌≡◌, ℕ, List, Result, Ok, Err, ⊤}
use Rattle.asn1_core.specs.Texts.{Taken}
use Rattle.asn1_core.specs.Gives.{NoneStands}
use Rattle.asn1_core.specs.declared.error.Error.TheVariants as asn1
use Rattle.asn1_core.specs.declared.error.Error.{Error as Asn1Error}
use Rattle.p12.specs.declared.error.Error.{Error}
use Rattle.p12.specs.declared.error.Error.TheVariants.{Malformed, Invalid, Rng, TooLong, Memory}

-- what a refusal of the layer below is here
abbrev pub refusal_of : Asn1Error → Error
refusal_of asn1.Malformed = Malformed
refusal_of (asn1.OidUnknown o) = Malformed
refusal_of asn1.Overlength = TooLong
refusal_of asn1.NoRoom = TooLong
refusal_of asn1.File = Malformed
refusal_of asn1.Memory = Memory

-- Malformed comes only where P, running out of memory may come at any point, and no other refusal
-- comes.
abbrev pub MalformedOnly : Error → Type 0 → Type 0
MalformedOnly Malformed P = P
MalformedOnly Invalid P = ⊥
MalformedOnly Rng P = ⊥
MalformedOnly TooLong P = ⊥
MalformedOnly Memory P = ⊤

-- The value of the text in front, or Malformed exactly where none is there; a refusal does not move
-- the reader.
abbrev pub Reads : {A : Type 0} → (List ℕ → A → Type 0) → List ℕ → List ℕ → Result A Error → Type 0
Reads R old new (Ok x) = Taken R old x new
Reads R old new (Err e) = (new ≡ old) × MalformedOnly e (NoneStands R old)

-- what is printed: the variant's name, and running out of memory in words
abbrev pub error_text : Error → List ℕ
error_text Malformed = codes "Malformed"
error_text Invalid = codes "Invalid"
error_text Rng = codes "Rng"
error_text TooLong = codes "TooLong"
error_text Memory = codes "out of memory"
