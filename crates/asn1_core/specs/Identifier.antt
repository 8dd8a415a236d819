-- Object identifiers as lists of octets (X.690 section 8.19), and how the fields of an
-- `ObjectIdentifier` hold one.
use Rattle.std.specs.Prelude.{ℕ, zero, suc, ◌≡◌, ◌+◌, ◌-◌, ◌*◌, ◌/◌, ◌%◌, ◌^◌, ◌<◌, ◌≤◌, Bool, true, false, ◌&&◌, not, ◌==◌, nat_lt, if◌then◌else◌, List, [], ◌∷◌, ◌++◌, length, take, Option, Some, None, IsTrue}
use Rattle.octet_core.specs.Padded.{IsPadded}

-- ---- the grammar

-- the octets of a number in base 128 that are not the last: each is 128 and a digit, and the first
-- digit is not 0
unfoldable pub high_in : ℕ → ℕ → List ℕ
high_in zero n = []
high_in (suc k) n = elim (nat_lt 0 n) [
  | true ↦ high_in k (n / 128) ++ (128 + n % 128) ∷ []
  | false ↦ []
]

unfoldable pub high : ℕ → List ℕ
high n = high_in n n

-- a subidentifier: a number in base 128, in its fewest octets, of which the last alone is below 128
abbrev pub sub : ℕ → List ℕ
sub n = high (n / 128) ++ (n % 128) ∷ []

abbrev pub subs : List ℕ → List ℕ
subs [] = []
subs (n ∷ ns) = sub n ++ subs ns

abbrev pub AllUnder : ℕ → List ℕ → Type 0
AllUnder m [] = Unit {0}
AllUnder m (n ∷ ns) = (n < m) × AllUnder m ns

-- o is one or more subidentifiers below 2 ^ 32, in at most 39 octets
abbrev pub IsIdentifier : List ℕ → Type 0
IsIdentifier o = (n : ℕ) × (ns : List ℕ) × AllUnder (2 ^ 32) (n ∷ ns) × (o ≡ subs (n ∷ ns))
    × (length o ≤ 39)

-- ---- the same as a test in one pass

-- n is what the current subidentifier has so far, 0 where one begins
abbrev pub next_state : ℕ → ℕ → Option ℕ
next_state n b = if nat_lt n (2 ^ 25) && (nat_lt b 256 && not (n == 0 && b == 128))
    then Some (if nat_lt b 128 then 0 else 128 * n + (b - 128)) else None

abbrev pub subidentifiers : ℕ → List ℕ → Bool
subidentifiers n [] = n == 0
subidentifiers n (b ∷ bs) = elim (next_state n b) [ None ↦ false | Some m ↦ subidentifiers m bs ]

abbrev pub is_identifier : List ℕ → Bool
is_identifier o = nat_lt 0 (length o) && nat_lt (length o) 40 && subidentifiers 0 o

-- ---- how an `ObjectIdentifier` holds one

-- `size` octets in front that are an identifier, and zeros after them
abbrev pub Holds : List ℕ → ℕ → Type 0
Holds octets size = IsPadded 39 size octets × IsTrue (is_identifier (take size octets))
