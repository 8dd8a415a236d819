-- Salts (RFC 8018 section 4.1), of at most 32 octets here, as OCTET STRING.
use Rattle.std.specs.Prelude.{◌≡◌, ℕ, ◌≤◌, List, length}

-- a salt that is not too long
abbrev pub IsSalt : List ℕ → Type 0
IsSalt s = length s ≤ 32

abbrev pub SaltOf : List ℕ → List ℕ → Type 0
SaltOf b s = (s ≡ b) × IsSalt s
