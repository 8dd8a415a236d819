-- Salts of PHC strings.
use Rattle.std.specs.Prelude.{ℕ, ◌≤◌, List, length}
use Rattle.base64.specs.GeneralPurpose.{IsBytes}

-- 8 to 48 octets
abbrev pub IsSalt : List ℕ → Type 0
IsSalt s = (8 ≤ length s) × (length s ≤ 48) × IsBytes s
