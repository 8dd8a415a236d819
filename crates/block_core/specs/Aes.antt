-- AES (FIPS 197 section 5) as functions of the key's octets and the block's.
use Rattle.std.specs.Prelude.{ℕ, ◌+◌, ◌-◌, ◌*◌, List}
use Rattle.block_core.specs.AesRounds.{encrypt_with, decrypt_with}
use Rattle.block_core.specs.AesKey.{expand}

-- the round keys of a key of `words` words for so many rounds: one more than the rounds, of four
-- words each
abbrev pub round_keys : ℕ → ℕ → List ℕ → List ℕ
round_keys words rounds key = expand words key (4 * (rounds + 1) - words)

-- AES with a key of `words` words, in so many rounds, the last one counted
abbrev pub aes : ℕ → ℕ → List ℕ → List ℕ → List ℕ
aes words rounds key = encrypt_with (round_keys words rounds key) (rounds - 1)

-- its inverse
abbrev pub inv_aes : ℕ → ℕ → List ℕ → List ℕ → List ℕ
inv_aes words rounds key = decrypt_with (round_keys words rounds key) (rounds - 1)

-- AES-128: 4 words, 10 rounds
abbrev pub aes_128 : List ℕ → List ℕ → List ℕ
aes_128 = aes 4 10

abbrev pub inv_aes_128 : List ℕ → List ℕ → List ℕ
inv_aes_128 = inv_aes 4 10

-- AES-192: 6 words, 12 rounds
abbrev pub aes_192 : List ℕ → List ℕ → List ℕ
aes_192 = aes 6 12

abbrev pub inv_aes_192 : List ℕ → List ℕ → List ℕ
inv_aes_192 = inv_aes 6 12

-- AES-256: 8 words, 14 rounds
abbrev pub aes_256 : List ℕ → List ℕ → List ℕ
aes_256 = aes 8 14

abbrev pub inv_aes_256 : List ℕ → List ℕ → List ℕ
inv_aes_256 = inv_aes 8 14
