-- The order of texts: that of their octets from the front, a shorter text first where it begins the
-- other.
use Rattle.std.specs.Prelude.{◌≡◌, ℕ, List, ◌⊎◌}
use Rattle.std.specs.declared.cmp.Ordering.{Ordering}
use Rattle.std.specs.Ordering.{ordering_then, nat_cmp}
use Rattle.std.specs.Cmp.Lexicographic.{slice_cmp}
use Rattle.asn1_core.specs.Der.{el}
use Rattle.asn1_core.specs.declared.error.Error.{Error}
use Rattle.asn1_core.specs.declared.error.Error.TheVariants.{Malformed, Overlength}

abbrev pub octet_cmp : List ℕ → List ℕ → Ordering
octet_cmp = slice_cmp nat_cmp

-- the order of two headers, each a tag octet and a length
abbrev pub header_order : ℕ → ℕ → ℕ → ℕ → Ordering
header_order t m u n = ordering_then (nat_cmp t u) (nat_cmp m n)

-- a tag octet, a length and a value
abbrev pub IsElementText : List ℕ → Type 0
IsElementText b = (t : ℕ) × (v : List ℕ) × (b ≡ el t v)

-- why two values are not compared
abbrev pub Unordered : Type 0 → Type 0 → Error → Type 0
Unordered bad over e = ((e ≡ Malformed) × bad) ⊎ ((e ≡ Overlength) × over)
