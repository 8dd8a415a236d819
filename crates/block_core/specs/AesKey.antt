-- The key expansion of AES (FIPS 197 section 5.2), for keys of 4, 6 and 8 words of four octets:
-- octet j of word i is at 4 * i + j.
use Rattle.std.specs.Prelude.{ℕ, zero, suc, ◌+◌, ◌-◌, ◌*◌, ◌/◌, ◌%◌, ◌<◌, ◌==◌, ◌&&◌, List, [], ◌∷◌, ◌++◌, bit_xor, cond, slice_index}
use Rattle.block_core.specs.Field.{power_of_x}
use Rattle.block_core.specs.Sbox.{sub_byte}

-- each number is an octet
abbrev pub AreOctets : List ℕ → Type 0
AreOctets keys = (i : ℕ) → slice_index keys i < 256

-- the word that is at a
abbrev pub word_at : List ℕ → ℕ → List ℕ
word_at w a = slice_index w a ∷ slice_index w (a + 1) ∷ slice_index w (a + 2)
    ∷ slice_index w (a + 3) ∷ []

-- SubWord of the word that is at a
abbrev pub sub_word : List ℕ → ℕ → List ℕ
sub_word w a =
    sub_byte (slice_index w a) ∷ sub_byte (slice_index w (a + 1))
    ∷ sub_byte (slice_index w (a + 2)) ∷ sub_byte (slice_index w (a + 3)) ∷ []

-- SubWord of RotWord of the word that is at a, its first octet xor the round constant
abbrev pub turned_word : ℕ → List ℕ → ℕ → List ℕ
turned_word constant w a =
    bit_xor (sub_byte (slice_index w (a + 1))) constant ∷ sub_byte (slice_index w (a + 2))
    ∷ sub_byte (slice_index w (a + 3)) ∷ sub_byte (slice_index w a) ∷ []

-- what is xored into word i - words to make word i: the word before it, which is rotated,
-- substituted and given the round constant where i is a multiple of `words`, and substituted where
-- i modulo 8 is 4 under a key of 8 words
unfoldable pub scheduled : ℕ → ℕ → List ℕ → ℕ → List ℕ
scheduled words constant w i =
    cond (i % words == 0) (turned_word constant w (4 * (i - 1)))
    (cond ((words == 8) && (i % words == 4)) (sub_word w (4 * (i - 1))) (word_at w (4 * (i - 1))))

-- the xor of two words
abbrev pub xor_words : List ℕ → List ℕ → List ℕ
xor_words u v =
    bit_xor (slice_index u 0) (slice_index v 0) ∷ bit_xor (slice_index u 1) (slice_index v 1)
    ∷ bit_xor (slice_index u 2) (slice_index v 2) ∷ bit_xor (slice_index u 3) (slice_index v 3) ∷ []

-- word i, from the words before it
unfoldable pub next_word : ℕ → List ℕ → ℕ → List ℕ
next_word words w i =
    xor_words (word_at w (4 * (i - words))) (scheduled words (power_of_x (i / words - 1)) w i)

-- a key of `words` words and the n words after it
unfoldable pub expand : ℕ → List ℕ → ℕ → List ℕ
expand words key zero = key
expand words key (suc n) = expand words key n ++ next_word words (expand words key n) (words + n)
