-- The value of a BIT STRING (X.690 section 8.6.2): the number of unused bits, and the octets.
use Rattle.std.specs.Prelude.{◌≡◌, ℕ, Bool, List, [], ◌∷◌, length, Err, IsTrue, nat_lt, nat_eq, ◌&&◌, ◌||◌}
use Rattle.asn1_core.specs.Reading.{Bad, All, where_ok}

-- at most 7 bits are unused, and none where there is no octet
abbrev pub is_bits : ℕ → List ℕ → Bool
is_bits unused octets = nat_lt unused 8 && (nat_eq unused 0 || nat_lt 0 (length octets))

abbrev pub seen_bits : ℕ → List ℕ → ℕ × List ℕ
seen_bits unused octets = (unused, octets)

abbrev pub BitsOf : List ℕ → ℕ × List ℕ → Type 0
BitsOf b v = IsTrue (is_bits v.0 v.1) × (b ≡ v.0 ∷ v.1)

-- ---- reading

abbrev pub bits_of : All (ℕ × List ℕ)
bits_of [] = Err Bad
bits_of (u ∷ o) = where_ok (is_bits u o) (seen_bits u o)
