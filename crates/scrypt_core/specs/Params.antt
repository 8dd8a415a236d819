-- Which costs scrypt takes (RFC 7914 section 2, and bounds of this crate).
use Rattle.std.specs.Prelude.{ℕ, ◌*◌, ◌^◌, ◌<◌, ◌≤◌}

-- ROMix has 2 ^ log_n turns over blocks of 128 * r octets, on p pieces
pub record Lawful (log_n r p : ℕ) : Type 0 where
  pub some_turns : 1 ≤ log_n
  pub word : log_n ≤ 63
  -- RFC 7914: fewer than 2 ^ (128 * r / 8) turns
  pub wide : log_n < 16 * r
  pub some_blocks : 1 ≤ r
  pub some_pieces : 1 ≤ p
  -- RFC 7914: r * p is at most 2 ^ 30 - 1, which is what PBKDF2 has blocks for
  pub product : r * p < 2 ^ 30
  -- what is in memory can be counted
  pub memory : 128 * r * 2 ^ log_n < 2 ^ 63
  pub pieces : 128 * r * p < 2 ^ 63
