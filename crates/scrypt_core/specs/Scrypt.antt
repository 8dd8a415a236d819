-- scrypt (RFC 7914 sections 5 and 6).
use Rattle.std.specs.Prelude.{ℕ, zero, suc, ◌+◌, ◌-◌, ◌*◌, ◌%◌, List, [], ◌∷◌, length, take, drop}
use Rattle.sha2.specs.Sha256.{sha256}
use Rattle.block_core.specs.Bits.{xor_each}
use Rattle.mac_modes.specs.Hmac.{hmac}
use Rattle.pbkdf2.specs.Pbkdf2.{pbkdf2}
use Rattle.scrypt_core.specs.BlockMix.{block_mix, joined}

-- V(i): BlockMix applied i times
unfoldable pub mixed_times : ℕ → ℕ → List ℕ → List ℕ
mixed_times r zero b = b
mixed_times r (suc i) b = block_mix r (mixed_times r i b)

-- the number of octets, the lowest first
unfoldable pub number : List ℕ → ℕ
number [] = 0
number (x ∷ xs) = x + 256 * number xs

-- Integerify: the number of the last block of 64 octets
abbrev pub integerify : List ℕ → ℕ
integerify x = number (drop (length x - 64) x)

-- i mixing turns over n blocks V
unfoldable pub turns : ℕ → ℕ → List ℕ → ℕ → List ℕ
turns r n b zero = mixed_times r n b
turns r n b (suc i) =
    let x = turns r n b i in
    block_mix r (xor_each x (mixed_times r (integerify x % n) b))

-- scryptROMix with n turns
abbrev pub rom_mix : ℕ → ℕ → List ℕ → List ℕ
rom_mix r n b = turns r n b n

-- PBKDF2 with HMAC-SHA256 under a password, in one round
abbrev pub once : List ℕ → List ℕ → ℕ → List ℕ
once q salt len = pbkdf2 (hmac sha256 64 q) 32 salt 1 len

-- len octets by ROMix with n turns on each of p pieces of 128 * r octets
unfoldable pub scrypt : List ℕ → List ℕ → ℕ → ℕ → ℕ → ℕ → List ℕ
scrypt q salt n r p len =
    let b = once q salt (128 * r * p) in
    once q (joined (λ i. rom_mix r n (take (128 * r) (drop (128 * r * i) b))) p) len
