-- Places in octets, and parts of octets with what comes after them.
use Rattle.std.specs.Prelude.{◌≡◌, ℕ, ◌+◌, ◌≤◌, List, ◌++◌, length, take, drop}
use Rattle.p12.specs.declared.place.Place.{Place}

-- the octets at a place
abbrev pub at_place : Place → List ℕ → List ℕ
at_place p b = take p.len (drop p.start b)

-- v is there, up to the end
abbrev pub UpTo : ℕ → List ℕ → Place → Type 0
UpTo end v p = (p.len ≡ length v) × (p.start + length v ≡ end)

-- it lies between two numbers of octets
abbrev pub Between : ℕ → ℕ → Place → Type 0
Between from to p = (from ≤ p.start) × (p.start + p.len ≤ to)

-- y is in x, and after it comes what is called after
abbrev pub Part : List ℕ → List ℕ → List ℕ → Type 0
Part y x after = (front : List ℕ) × (x ≡ front ++ (y ++ after))
