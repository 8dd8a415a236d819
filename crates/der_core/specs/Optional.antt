-- The text of a value that may be missing: that of the value, or nothing.
use Rattle.std.specs.Prelude.{◌≡◌, List, [], ℕ, Option, Some, None}

abbrev pub canon_option : {A : Type 0} → (A → List ℕ) → Option A → List ℕ
canon_option canon None = []
canon_option canon (Some a) = canon a

abbrev pub writable_option : {A : Type 0} → (A → Type 0) → Option A → Type 0
writable_option writable None = Unit {0}
writable_option writable (Some a) = writable a

-- which texts spell a value that may be missing
abbrev pub SpellsOption : {A : Type 0} → (List ℕ → A → Type 0) → List ℕ → Option A → Type 0
SpellsOption spell b None = b ≡ []
SpellsOption spell b (Some a) = spell b a
