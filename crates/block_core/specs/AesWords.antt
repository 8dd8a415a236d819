-- The state of AES as four words, one for each column, and the words of the tables.
use Rattle.std.specs.Prelude.{◌≡◌, ℕ, ◌+◌, ◌*◌, ◌^◌, ◌<◌, List, ◌++◌, length, slice_index}
use Rattle.std.specs.List.{flat_map}
use Rattle.std.specs.Int.{w32, to_be_bytes}
use Rattle.block_core.specs.Field.{product}
use Rattle.block_core.specs.AesRounds.{times_circulant}

-- the word of four octets, the highest first
abbrev pub word : ℕ → ℕ → ℕ → ℕ → ℕ
word a b c d = a * 256 ^ 3 + b * 256 ^ 2 + c * 256 ^ 1 + d

-- the octets of the four columns
abbrev pub octets_of : List ℕ → List ℕ
octets_of w =
    to_be_bytes w32 (slice_index w 0) ++ to_be_bytes w32 (slice_index w 1)
    ++ to_be_bytes w32 (slice_index w 2) ++ to_be_bytes w32 (slice_index w 3)

-- the word of an octet times four factors
abbrev pub scaled : ℕ → ℕ → ℕ → ℕ → ℕ → ℕ
scaled k0 k1 k2 k3 a = word (product k0 a) (product k1 a) (product k2 a) (product k3 a)

-- the word of the product of a column with a circulant matrix
abbrev pub mixed_word : ℕ → ℕ → ℕ → ℕ → List ℕ → ℕ
mixed_word k0 k1 k2 k3 column =
    let f = times_circulant k0 k1 k2 k3 (λ r. slice_index column r) in
    word (f 0) (f 1) (f 2) (f 3)

-- the octets of words
abbrev pub octets_of_words : List ℕ → List ℕ
octets_of_words ws = flat_map (to_be_bytes w32) ws

-- column c of round key n of an expanded key
abbrev pub key_column : List ℕ → ℕ → ℕ → ℕ
key_column keys n c =
    word (slice_index keys (16 * n + 4 * c)) (slice_index keys (16 * n + (4 * c + 1)))
    (slice_index keys (16 * n + (4 * c + 2))) (slice_index keys (16 * n + (4 * c + 3)))

-- the second words are the first, each of these columns through InvMixColumns
abbrev pub AreUnmixed : List ℕ → List ℕ → Type 0
AreUnmixed keys unmixed = (k : ℕ) → k < length keys
    → slice_index unmixed k ≡ mixed_word 0x0e 0x0b 0x0d 0x09 (to_be_bytes w32 (slice_index keys k))
