-- The parameters of PBKDF2 in password hashes.
use Rattle.std.specs.Prelude.{◌≡◌, ℕ, ◌<◌, ◌≤◌, ◌^◌, List}
use Rattle.std.specs.Str.Parse.{IsNumeral, digits_value, without_leading_plus}

-- the number of rounds, and the length of the output in octets
pub record Settings : Type 0 where
  pub rounds : ℕ
  pub output_len : ℕ

-- 1,000 rounds or more, and 10 to 64 octets of output
pub record InBounds (s : Settings) : Type 0 where
  pub some_rounds : 1000 ≤ s.rounds
  pub rounds_fit : s.rounds < 2 ^ 32
  pub some_output : 10 ≤ s.output_len
  pub output_fits : s.output_len ≤ 64

-- the recommended parameters: 600,000 rounds and 32 octets
abbrev pub recommended : Settings
recommended = record { rounds = 600000; output_len = 32 }

-- the text is the number n below 2^32: decimal digits, with or without a plus in front
abbrev pub IsNumber : List ℕ → ℕ → Type 0
IsNumber t n = IsNumeral 10 (without_leading_plus t)
    × (n ≡ digits_value 10 (without_leading_plus t)) × (n < 2 ^ 32)
