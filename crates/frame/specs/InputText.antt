-- The text of the input: a line of hexadecimal digits, and a second one or none.
use Rattle.std.specs.Prelude.{ℕ, ◌≡◌, ◌≢◌, ◌⊎◌, ◌-◌, length, slice_index, List, [], ◌∷◌, ◌++◌, Option, Some, None, Ok}
use Rattle.hex.specs.Hex.{decode_of}

-- An even number of hexadecimal digits of either case, and the octets that they spell.
abbrev pub IsHex : List ℕ → List ℕ → Type 0
IsHex digits octets = decode_of digits ≡ Ok octets

-- The text spells this store, and on a second line these octets to be drawn, if it has one: the
-- digits of the store's octets, and after them a line feed (10) or nothing; or a line feed, the
-- digits of the octets to be drawn, and a line feed. The last line feed may be missing after
-- digits.
abbrev pub IsInput : List ℕ → List ℕ → Option (List ℕ) → Type 0
IsInput x store None = (digits : List ℕ) × IsHex digits store
    × ((x ≡ digits) ⊎ (x ≡ digits ++ 10 ∷ []))
IsInput x store (Some drawn) = (digits : List ℕ) × (more : List ℕ) × IsHex digits store
    × IsHex more drawn
    × (((x ≡ digits ++ 10 ∷ more) × (more ≢ [])) ⊎ (x ≡ digits ++ 10 ∷ (more ++ 10 ∷ [])))

-- The text spells no store.
abbrev pub IsNoInput : List ℕ → Type 0
IsNoInput x = (store : List ℕ) (line : Option (List ℕ)) → IsInput x store line → ⊥

-- An input spells one store, and one second line or none.
abbrev pub OneInput : Type 0
OneInput = (x s t : List ℕ) (l m : Option (List ℕ)) → IsInput x s l → IsInput x t m
    → (s ≡ t) × (l ≡ m)

-- What a line is without its line feed, where it has one.
pub data Ends (line digits : List ℕ) : Type 0 where
  fed : line ≡ digits ++ 10 ∷ [] → Ends line digits
  bare : line ≡ digits → slice_index line (length line - 1) ≢ 10 → Ends line digits
