-- Cipher block chaining (NIST SP 800-38A section 6.2), by decryption alone: a cipher is given by
-- its inverse D, on blocks of n octets. It is a permutation, so the ciphertext of a text is the one
-- that decrypts to it.
use Rattle.std.specs.Prelude.{ℕ, zero, suc, ◌*◌, ◌/◌, List, [], ◌++◌, length, take, drop}
use Rattle.block_core.specs.Bits.{xor_each}

-- block i of a text, counted from 0
abbrev pub block : ℕ → ℕ → List ℕ → List ℕ
block n i t = take n (drop (n * i) t)

-- the first k blocks of what c decrypts to: block i is the inverse on block i of c, xored with the
-- block of c before it, the iv standing before the first
unfoldable pub opened : (List ℕ → List ℕ) → ℕ → List ℕ → ℕ → List ℕ → List ℕ
opened D n iv zero c = []
opened D n iv (suc k) c = opened D n iv k c ++ xor_each (D (block n k c)) (block n k (iv ++ c))

-- what c decrypts to, as far as it is whole blocks
abbrev pub uncbc : (List ℕ → List ℕ) → ℕ → List ℕ → List ℕ → List ℕ
uncbc D n iv c = opened D n iv (length c / n) c
