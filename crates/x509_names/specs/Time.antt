-- Times of certificates (RFC 5280 section 4.1.2.5).
use Rattle.std.specs.Prelude.{ℕ, ◌≡◌, ◌+◌, ◌-◌, ◌*◌, ◌%◌, ◌<◌, ◌⊎◌, ◌==◌, ◌&&◌, ◌||◌, not, Bool, List, [], ◌∷◌, ◌++◌, All, cond, nat_lt, codes, length, slice_index, slice_range}
use Rattle.std.specs.Int.{IsInRange}
use Rattle.asn1_core.specs.Der.{el}
use Rattle.x509_names.specs.HexText.{hex_text}

-- `0` to `9`
abbrev pub IsDigit : ℕ → Type 0
IsDigit b = IsInRange 48 57 b

-- d are the digits in the value of the element e: so many, with a `Z` (90) after them
pub record Digits (tag count : ℕ) (e d : List ℕ) : Type 0 where
  pub is : e ≡ el tag (d ++ 90 ∷ [])
  pub count_is : length d ≡ count
  pub digits : All IsDigit d

-- the number of the two digits at place i
abbrev pub number_at : ℕ → List ℕ → ℕ
number_at i d = 10 * (slice_index d i - 48) + (slice_index d (i + 1) - 48)

-- the century of a year of two digits: 1950 to 2049
abbrev pub century : List ℕ → List ℕ
century d = cond (nat_lt (number_at 0 d) 50) (codes "20") (codes "19")

-- The element e is a time, and d are its digits YYYYMMDDHHMMSS: those of a GeneralizedTime, or the
-- century and those of a UTCTime.
abbrev pub HasTime : List ℕ → List ℕ → Type 0
HasTime e d = Digits 0x18 14 e d
    ⊎ ((short : List ℕ) × Digits 0x17 12 e short × (d ≡ century short ++ short))

-- e is no time in the form of DER
abbrev pub NoTime : List ℕ → Type 0
NoTime e = (d : List ℕ) → HasTime e d → ⊥

-- three numbers with a separator between them, the last two of two digits each
abbrev pub separated : ℕ → List ℕ → List ℕ → List ℕ → List ℕ
separated between first second third = first ++ between ∷ second ++ between ∷ third

-- YYYY-MM-DD HH:MM:SS UTC
abbrev pub written : List ℕ → List ℕ
written d =
    separated 45 (slice_range d 0 4) (slice_range d 4 6) (slice_range d 6 8) ++ 32
    ∷ separated 58 (slice_range d 8 10) (slice_range d 10 12) (slice_range d 12 14)
    ++ codes " UTC"

-- t is the text of the element e
abbrev pub IsTimeText : List ℕ → List ℕ → Type 0
IsTimeText e t = ((d : List ℕ) × HasTime e d × (t ≡ written d)) ⊎ (NoTime e × (t ≡ hex_text e))

-- ---- times that exist

-- a year with a 29th of February
abbrev pub is_leap : ℕ → Bool
is_leap year = year % 4 == 0 && (not (year % 100 == 0) || year % 400 == 0)

-- how many days the month has
abbrev pub days_in : ℕ → ℕ → ℕ
days_in year month =
    cond (month == 2) (cond (is_leap year) 29 28)
    (cond (month == 4 || month == 6 || month == 9 || month == 11) 30 31)

-- the day is one of the Gregorian calendar
abbrev pub IsDate : List ℕ → Type 0
IsDate d = IsInRange 1 12 (number_at 4 d)
    × IsInRange 1 (days_in (100 * number_at 0 d + number_at 2 d) (number_at 4 d)) (number_at 6 d)

-- the hour, minute and second are ones of a day, without leap seconds
abbrev pub IsClock : List ℕ → Type 0
IsClock d = (number_at 8 d < 24) × (number_at 10 d < 60) × (number_at 12 d < 60)

-- the element e is a time that exists
abbrev pub IsTime : List ℕ → Type 0
IsTime e = (d : List ℕ) × HasTime e d × IsDate d × IsClock d
