-- Texts that may be left out.
use Rattle.std.specs.Prelude.{ℕ, List, [], ◌∷◌, Option, Some, None, IfSome, IsUtf8}

-- octets, where there are some
abbrev pub given : List ℕ → Option (List ℕ)
given [] = None
given (c ∷ cs) = Some (c ∷ cs)

-- They are UTF-8, where they are given.
abbrev pub IsGivenText : Option (List ℕ) → Type 0
IsGivenText o = IfSome o IsUtf8
