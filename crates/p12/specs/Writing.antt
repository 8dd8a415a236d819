-- What the calls return that write a value: its canonical text (X.690 sections 8 to 11), or why
-- there is none.
use Rattle.std.specs.Prelude.{◌≡◌, ℕ, List, length, Result, Ok, Err, None, ⊤}
use Rattle.asn1_core.specs.Der.{IsShort}
use Rattle.asn1_core.specs.Writing.{Sink, Cause, IsOverlong, Writes, in_memory}
use Rattle.asn1_core.specs.declared.error.Error.{Error as Asn1Error}
use Rattle.p12.specs.declared.error.Error.{Error}
use Rattle.p12.specs.declared.error.Error.TheVariants as errors

-- a call that takes memory refuses to make this text: `can` says whether the value can be written
abbrev pub RefusesText : Type 0 → List ℕ → Asn1Error → Type 0
RefusesText can text e = Cause (¬ can) (IsOverlong (length text)) (Unit {0}) None 0 0 0 e

-- the text was made, which is short and that of a value that can be written, or why not
abbrev pub MakesText : Type 0 → List ℕ → Result (List ℕ) Asn1Error → Type 0
MakesText can text (Ok t) = (t ≡ text) × IsShort text × can
MakesText can text (Err e) = RefusesText can text e

-- the text was written whole, or a front of it and the result says why
abbrev pub WritesText : {W : Type 0} → Sink W → Type 0 → List ℕ → W → Result (Unit {0}) Asn1Error
    → W → Type 0
WritesText S can text old r new =
    Writes (in_memory S) (¬ can) (IsOverlong (length text)) text old r new

-- the same of the text in memory of its own, by the errors of this crate: Malformed only where the
-- value cannot be written, TooLong only where its text has more than 2 ^ 32 - 1 octets, Memory at
-- any point
abbrev pub EncodesText : Type 0 → List ℕ → Result (List ℕ) Error → Type 0
EncodesText can text (Ok t) = (t ≡ text) × IsShort text × can
EncodesText can text (Err errors.Malformed) = ¬ can
EncodesText can text (Err errors.Invalid) = ⊥
EncodesText can text (Err errors.Rng) = ⊥
EncodesText can text (Err errors.TooLong) = IsOverlong (length text)
EncodesText can text (Err errors.Memory) = ⊤
