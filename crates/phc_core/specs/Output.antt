-- Outputs of password hash functions in PHC strings.
use Rattle.std.specs.Prelude.{ℕ, ◌≤◌, List, length}
use Rattle.base64.specs.GeneralPurpose.{IsBytes}

-- 10 to 64 octets
abbrev pub IsOutput : List ℕ → Type 0
IsOutput o = (10 ≤ length o) × (length o ≤ 64) × IsBytes o
