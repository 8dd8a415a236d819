-- Documents: one whole SEQUENCE (X.690 section 8.9), of at most 2^32 - 1 octets, whatever is in it.
use Rattle.std.specs.Prelude.{◌≡◌, ℕ, List, Bool, true, false, Result, Ok, Err}
use Rattle.asn1_core.specs.Der.{seq, IsShort}
use Rattle.asn1_core.specs.Reading.{Fault, whole, inside_at}

abbrev pub IsSequence : List ℕ → Type 0
IsSequence b = (v : List ℕ) × (b ≡ seq v) × IsShort b

-- ---- the same as a test

abbrev pub was_read : {A : Type 0} → Result A Fault → Bool
was_read (Ok x) = true
was_read (Err f) = false

abbrev pub is_sequence : List ℕ → Bool
is_sequence b = was_read (whole (inside_at 48) b)
