-- Parameter texts of PHC strings: `name=value,name=value` (the PHC string format, "Specification").
use Rattle.std.specs.Prelude.{◌≢◌, ℕ, ◌<◌, ◌≤◌, ◌==◌, List, [], ◌∷◌, ◌++◌, length, codes, decimal}
use Rattle.std.specs.List.{AllByRecursion, slice_split, position_or_len, before_first, after_first}
use Rattle.phc_core.specs.Ident.{IsIdent}
use Rattle.phc_core.specs.Value.{IsValue}

-- the pieces of a text between its commas
abbrev pub pieces : List ℕ → List (List ℕ)
pieces t = slice_split (λ b. b == 44) t

-- what is before the first `=` of a piece
abbrev pub name_in : List ℕ → List ℕ
name_in p = before_first (λ b. b == 61) p

-- what comes after the first `=` of a piece
abbrev pub value_in : List ℕ → List ℕ
value_in p = after_first (λ b. b == 61) p

-- a piece that has an `=`, a name in front of it that is not `v`, and a value after it
abbrev pub IsPair : List ℕ → Type 0
IsPair p = (position_or_len (λ b. b == 61) p < length p) × IsIdent (name_in p)
    × (name_in p ≢ codes "v") × IsValue (value_in p)

-- no piece has this name
abbrev pub LacksName : List ℕ → List (List ℕ) → Type 0
LacksName name ps = AllByRecursion (λ p. name_in p ≢ name) ps

-- pieces that are pairs, with distinct names
abbrev pub ArePairs : List (List ℕ) → Type 0
ArePairs [] = Unit {0}
ArePairs (p ∷ ps) = IsPair p × LacksName (name_in p) ps × ArePairs ps

-- a parameter text: at most 127 octets, empty or pairs with distinct names
abbrev pub IsParams : List ℕ → Type 0
IsParams t = (length t ≤ 127) × (0 < length t → ArePairs (pieces t))

-- the pairs of a parameter text; an empty text has none
abbrev pub pairs_of : List ℕ → List (List ℕ)
pairs_of [] = []
pairs_of (c ∷ cs) = pieces (c ∷ cs)

-- the pair `name=n`
abbrev pub decimal_pair : List ℕ → ℕ → List ℕ
decimal_pair name n = name ++ 61 ∷ decimal n

-- the text with one more pair at its end
abbrev pub with_pair : List ℕ → List ℕ → List ℕ
with_pair [] p = p
with_pair (c ∷ cs) p = (c ∷ cs) ++ 44 ∷ p

-- the name is allowed and not there yet, and the text with `name=n` at its end has at most 127
-- octets
abbrev pub TakesDecimal : List ℕ → List ℕ → ℕ → Type 0
TakesDecimal t name n = IsIdent name × (name ≢ codes "v") × LacksName name (pairs_of t)
    × (length (with_pair t (decimal_pair name n)) ≤ 127)
