-- The arcs of an object identifier, and its text: the arcs in decimal with points between them.
use Rattle.std.specs.Prelude.{ℕ, zero, suc, ◌≡◌, ◌==◌, ◌+◌, ◌-◌, ◌*◌, ◌/◌, ◌^◌, ◌<◌, ◌≤◌, min, true, false, nat_lt, List, [], ◌∷◌, length, map, decimal}
use Rattle.std.specs.List.{join_with_byte, slice_split}
use Rattle.asn1_core.specs.Identifier.{subs, AllUnder}

-- ---- the grammar

-- list is the arcs of the identifier o: the first subidentifier is 40 times the first arc and the
-- second arc, and each later arc is a subidentifier (X.690 sections 8.19.4 and 8.19.5)
abbrev pub HasArcs : List ℕ → List ℕ → Type 0
HasArcs o list =
    (a : ℕ) × (b : ℕ) × (ns : List ℕ) × (list ≡ a ∷ b ∷ ns) × (a ≤ 2) × (a < 2 → b ≤ 39)
    × AllUnder (2 ^ 32) ((40 * a + b) ∷ ns) × (o ≡ subs ((40 * a + b) ∷ ns)) × (length o ≤ 39)

-- no identifier has these arcs
abbrev pub NoneHas : List ℕ → Type 0
NoneHas list = (o : List ℕ) → HasArcs o list → ⊥

-- arcs in decimal, with no leading zeros, and a point (46) between each two
abbrev pub arcs_text : List ℕ → List ℕ
arcs_text list = join_with_byte 46 (map decimal list)

-- t is the text of the identifier o
abbrev pub IsText : List ℕ → List ℕ → Type 0
IsText t o = (list : List ℕ) × HasArcs o list × (t ≡ arcs_text list)

-- no identifier has this text
abbrev pub NoneReads : List ℕ → Type 0
NoneReads t = (o : List ℕ) → IsText t o → ⊥

-- ---- the arcs, as they are read from octets; that they are the identifier's arcs, and no others
-- are, is a law

-- the subidentifiers; n is what the current one has so far, 0 where one begins
unfoldable pub values : ℕ → List ℕ → List ℕ
values n [] = []
values n (b ∷ bs) = elim (nat_lt b 128) [
  | true ↦ (128 * n + b) ∷ values 0 bs
  | false ↦ values (128 * n + (b - 128)) bs
]

abbrev pub first_arc : ℕ → ℕ
first_arc n = min 2 (n / 40)

-- the arcs of subidentifiers
abbrev pub arcs_of : List ℕ → List ℕ
arcs_of [] = []
arcs_of (n ∷ ns) = first_arc n ∷ (n - 40 * first_arc n) ∷ ns

-- the arcs of an identifier's octets
abbrev pub arcs : List ℕ → List ℕ
arcs o = arcs_of (values 0 o)

-- ---- the text, as it is read and written

-- the words of a text between its points
abbrev pub words : List ℕ → List (List ℕ)
words t = slice_split (λ b. b == 46) t

-- the arc n at place i of a text, with the point in front of it
abbrev pub arc_text : ℕ → ℕ → List ℕ
arc_text zero n = decimal n
arc_text (suc i) n = 46 ∷ decimal n
