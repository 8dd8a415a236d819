-- Rows whose texts have one value each.
use Rattle.std.specs.Prelude.{◌≡◌, ℕ, List}
use Rattle.asn1_core.specs.Der.{IsShort}

-- a text of the relation, which is short enough to be written, is that of at most one value
abbrev pub IsSole : {A : Type 0} → (List ℕ → A → Type 0) → Type 0
IsSole R = (b : List ℕ) (v w : _) → R b v × IsShort b → R b w × IsShort b → v ≡ w
