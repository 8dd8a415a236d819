-- The input of one line.
use Rattle.std.specs.Prelude.{ℕ, List, None}
use Rattle.frame.specs.InputText.{IsInput}

-- The input is one line, which spells this store: the hexadecimal digits of its octets, and after
-- them a line feed or nothing.
abbrev pub IsLine : List ℕ → List ℕ → Type 0
IsLine x store = IsInput x store None

-- The input is no such line.
abbrev pub IsNoLine : List ℕ → Type 0
IsNoLine x = (store : List ℕ) → IsLine x store → ⊥
