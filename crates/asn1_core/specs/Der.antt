-- The texts of the distinguished encoding rules (X.690 sections 8 and 10), as lists of octets.
use Rattle.std.specs.Prelude.{◌≡◌, ℕ, zero, suc, ◌+◌, ◌/◌, ◌%◌, ◌^◌, ◌<◌, Bool, true, false, List, [], ◌∷◌, ◌++◌, length, nat_lt, ◌==◌, ◌&&◌, not, IsTrue}

-- n in the fewest octets, the most significant first; the first argument bounds the octets after
-- the first
unfoldable pub digits_in : ℕ → ℕ → List ℕ
digits_in zero n = n ∷ []
digits_in (suc k) n =
    elim (nat_lt n 256) [ true ↦ n ∷ [] | false ↦ digits_in k (n / 256) ++ (n % 256) ∷ [] ]

unfoldable pub digits : ℕ → List ℕ
digits n = digits_in n n

-- the length n: one octet below 128, else 128 and the number of octets, and the fewest octets
unfoldable pub len : ℕ → List ℕ
len n = elim (nat_lt n 128) [ true ↦ n ∷ [] | false ↦ (128 + length (digits n)) ∷ digits n ]

-- the element of a tag octet and a value
unfoldable pub el : ℕ → List ℕ → List ℕ
el tag value = tag ∷ len (length value) ++ value

-- the bound on each text that is read: at most 2 ^ 32 - 1 octets. It is said once, of the outermost
-- text
abbrev pub IsShort : List ℕ → Type 0
IsShort b = length b < 2 ^ 32

-- the length of the value of an element that is not too long
abbrev pub IsHeader : ℕ → Type 0
IsHeader n = 1 + length (len n) + n < 2 ^ 32

abbrev pub is_tag : ℕ → Bool
is_tag tag = nat_lt tag 256 && not (tag % 32 == 31)

-- one whole element, whatever it holds
abbrev pub IsElement : List ℕ → Type 0
IsElement b = (tag : ℕ) × (value : List ℕ) × IsTrue (is_tag tag) × (b ≡ el tag value)

-- the shortest two's complement of n, the most significant octet first
unfoldable pub shortest_in : ℕ → ℕ → List ℕ
shortest_in zero n = n ∷ []
shortest_in (suc k) n =
    elim (nat_lt n 128) [ true ↦ n ∷ [] | false ↦ shortest_in k (n / 256) ++ (n % 256) ∷ [] ]

unfoldable pub shortest : ℕ → List ℕ
shortest n = shortest_in n n

abbrev pub uint : ℕ → List ℕ
uint n = el 0x02 (shortest n)

abbrev pub octets : List ℕ → List ℕ
octets v = el 0x04 v

abbrev pub null : List ℕ
null = el 0x05 []

abbrev pub oid : List ℕ → List ℕ
oid o = el 0x06 o

abbrev pub seq : List ℕ → List ℕ
seq x = el 0x30 x

abbrev pub set : List ℕ → List ℕ
set x = el 0x31 x

-- a constructed element of the context class
abbrev pub ctx : ℕ → List ℕ → List ℕ
ctx n x = el (0xa0 + n) x

-- a primitive element of the context class
abbrev pub pctx : ℕ → List ℕ → List ℕ
pctx n x = el (0x80 + n) x

-- the elements of a list, one after the other
abbrev pub joined : List (List ℕ) → List ℕ
joined [] = []
joined (e ∷ es) = e ++ joined es
