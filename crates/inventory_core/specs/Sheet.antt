-- A text for which there is so much room.
use Rattle.std.specs.Prelude.{ℕ, ◌≡◌, ◌≤◌, ◌<◌, List, length}
use Rattle.inventory_core.specs.declared.listed.Listed.{Listed}
use Rattle.inventory_core.specs.declared.listed.Listed.TheVariants.{Table, Longer}

-- So many octets were added, which are all of these; and where there is room for them they are kept.
abbrev pub Holds : ℕ → ℕ → List ℕ → List ℕ → Type 0
Holds count room kept all = (count ≡ length all) × (count ≤ room → kept ≡ all)

-- The text where there is room for it, and else its size.
abbrev pub IsListed : ℕ → List ℕ → Listed → Type 0
IsListed room text (Table t) = (t ≡ text) × (length text ≤ room)
IsListed room text (Longer size) = (size ≡ length text) × (room < size)
