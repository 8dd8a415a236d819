-- Text that a terminal shows as it is.
use Rattle.std.specs.Prelude.{ℕ, List, All, [], ◌∷◌, ◌&&◌, Bool, cond, nat_lt}
use Rattle.std.specs.Int.{IsInRange}
use Rattle.x509_names.specs.HexText.{two_digits}

-- a printable octet of ASCII: from the space (32) to the tilde (126)
abbrev pub IsPrintable : ℕ → Type 0
IsPrintable b = IsInRange 32 126 b

-- each octet of a text is
abbrev pub ArePrintable : List ℕ → Type 0
ArePrintable t = All IsPrintable t

-- the same as a test
abbrev pub is_printable : ℕ → Bool
is_printable b = nat_lt 31 b && nat_lt b 127

-- an octet as it is where it is printable, else a backslash (92) and its digits
unfoldable pub shown : ℕ → List ℕ
shown b = cond (is_printable b) (b ∷ []) (92 ∷ two_digits b)
