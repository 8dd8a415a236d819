-- The steps and rounds of AES (FIPS 197 sections 5.1 and 5.3). The state is a list of 16 octets,
-- filled column by column: row r of column c is at r + 4 * c. Round key n is the 16 octets from 16
-- * n on of the expanded key.
use Rattle.std.specs.Prelude.{ℕ, zero, suc, ◌+◌, ◌-◌, ◌*◌, ◌/◌, ◌%◌, List, map, bit_xor, slice_index}
use Rattle.std.specs.List.{range_with_len}
use Rattle.block_core.specs.Field.{product}
use Rattle.block_core.specs.Sbox.{sub_byte, inv_sub_byte}

-- the state of the 16 octets f 0, f 1, .., f 15
abbrev pub state_by : (ℕ → ℕ) → List ℕ
state_by f = map f (range_with_len 0 16)

-- 5.1.1, SubBytes: each octet through the S-box
unfoldable pub sub_bytes : List ℕ → List ℕ
sub_bytes s = state_by (λ i. sub_byte (slice_index s i))

-- 5.1.2, ShiftRows: row r is rotated left by r places
unfoldable pub shift_rows : List ℕ → List ℕ
shift_rows s = state_by (λ i. slice_index s (i % 4 + 4 * ((i / 4 + i % 4) % 4)))

-- row r of the product of a column with the circulant matrix whose first row is k0 k1 k2 k3
unfoldable pub times_circulant : ℕ → ℕ → ℕ → ℕ → (ℕ → ℕ) → ℕ → ℕ
times_circulant k0 k1 k2 k3 column r =
    bit_xor
    (bit_xor (product k0 (column r)) (product k1 (column ((r + 1) % 4))))
    (bit_xor (product k2 (column ((r + 2) % 4))) (product k3 (column ((r + 3) % 4))))

-- the column of s that has the octet i
abbrev pub column_of : List ℕ → ℕ → ℕ → ℕ
column_of s i r = slice_index s (4 * (i / 4) + r)

-- 5.1.3, MixColumns: each column times the matrix 02 03 01 01
unfoldable pub mix_columns : List ℕ → List ℕ
mix_columns s = state_by (λ i. times_circulant 0x02 0x03 0x01 0x01 (column_of s i) (i % 4))

-- 5.1.4, AddRoundKey: the state xor round key n
unfoldable pub add_round_key : List ℕ → ℕ → List ℕ → List ℕ
add_round_key keys n s = state_by (λ i. bit_xor (slice_index s i) (slice_index keys (16 * n + i)))

-- 5.1: round key 0 added, and then the first n rounds
unfoldable pub rounds : List ℕ → ℕ → List ℕ → List ℕ
rounds keys zero s = add_round_key keys 0 s
rounds keys (suc n) s =
    add_round_key keys (suc n) (mix_columns (shift_rows (sub_bytes (rounds keys n s))))

-- 5.1, Cipher, of n rounds and the last one, which has no MixColumns
unfoldable pub encrypt_with : List ℕ → ℕ → List ℕ → List ℕ
encrypt_with keys n s = add_round_key keys (suc n) (shift_rows (sub_bytes (rounds keys n s)))

-- 5.3.1, InvShiftRows: row r is rotated right by r places
unfoldable pub inv_shift_rows : List ℕ → List ℕ
inv_shift_rows s = state_by (λ i. slice_index s (i % 4 + 4 * ((i / 4 + 4 - i % 4) % 4)))

-- 5.3.2, InvSubBytes: each octet through the inverse S-box
unfoldable pub inv_sub_bytes : List ℕ → List ℕ
inv_sub_bytes s = state_by (λ i. inv_sub_byte (slice_index s i))

-- 5.3.3, InvMixColumns: each column times the matrix 0e 0b 0d 09
unfoldable pub inv_mix_columns : List ℕ → List ℕ
inv_mix_columns s = state_by (λ i. times_circulant 0x0e 0x0b 0x0d 0x09 (column_of s i) (i % 4))

-- 5.3: the first n rounds undone, the last of them first
unfoldable pub inv_rounds : List ℕ → ℕ → List ℕ → List ℕ
inv_rounds keys zero s = add_round_key keys 0 s
inv_rounds keys (suc n) s =
    inv_rounds keys n (inv_sub_bytes
    (inv_shift_rows (inv_mix_columns (add_round_key keys (suc n) s))))

-- 5.3, InvCipher, of n rounds and the last one
unfoldable pub decrypt_with : List ℕ → ℕ → List ℕ → List ℕ
decrypt_with keys n s =
    inv_rounds keys n (inv_sub_bytes (inv_shift_rows (add_round_key keys (suc n) s)))
