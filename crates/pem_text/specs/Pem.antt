-- The textual encoding of RFC 7468, sections 2 and 3
use Rattle.std.specs.Prelude.{◌≡◌, ◌==◌, ◌++◌, ◌∷◌, [], Bool, List, Ok, ℕ, zero, suc, length, take, drop, codes, cond, false, filter, true}
use Rattle.base64.specs.Engines.{standard}
use Rattle.base64.specs.GeneralPurpose.{decode_of, encode_of}

-- the characters in at most n lines of 64, the last of which may be shorter, each ended by a line
-- feed
unfoldable pub lines_of : ℕ → List ℕ → List ℕ
lines_of zero characters = []
lines_of (suc n) [] = []
lines_of (suc n) (c ∷ characters) =
    (take 64 (c ∷ characters) ++ 10 ∷ []) ++ lines_of n (drop 64 (c ∷ characters))

-- all characters in such lines
abbrev pub in_lines : List ℕ → List ℕ
in_lines characters = lines_of (length characters) characters

-- a boundary line
abbrev pub boundary : List ℕ → List ℕ → List ℕ
boundary before label = before ++ (label ++ codes "-----\n")

-- the text of these octets under this label
abbrev pub pem : List ℕ → List ℕ → List ℕ
pem label octets = (boundary (codes "-----BEGIN ") label ++ in_lines (encode_of standard octets))
    ++ boundary (codes "-----END ") label

-- a character is no line feed
abbrev pub is_in_line : ℕ → Bool
is_in_line c = cond (c == 10) false true

-- the characters of lines, without their line feeds
abbrev pub joined : List ℕ → List ℕ
joined = filter is_in_line

-- The text t says octets under a label: between its boundaries are lines whose characters decode
-- to these octets.
pub record Says (t label octets : List ℕ) : Type 0 where
  pub lines : List ℕ
  pub parts : t ≡ (boundary (codes "-----BEGIN ") label ++ lines)
      ++ boundary (codes "-----END ") label
  pub decodes : decode_of standard (joined lines) ≡ Ok octets
