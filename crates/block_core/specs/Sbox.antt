-- The S-box of AES (FIPS 197 sections 5.1.1 and 5.3.2): the inverse in the field, and then an
-- affine map.
use Rattle.std.specs.Prelude.{ℕ, zero, suc, ◌+◌, ◌*◌, ◌%◌, ◌^◌}
use Rattle.block_core.specs.Field.{bit, inverse}

-- the number whose bits below n are those of f
unfoldable pub from_bits : ℕ → (ℕ → ℕ) → ℕ
from_bits zero f = 0
from_bits (suc n) f = from_bits n f + f n * 2 ^ n

-- 5.1.1: the bit i of the affine map's result
unfoldable pub affine_bit : ℕ → ℕ → ℕ
affine_bit b i =
    (bit b i + bit b ((i + 4) % 8) + bit b ((i + 5) % 8) + bit b ((i + 6) % 8) + bit b ((i + 7) % 8)
    + bit 0x63 i) % 2

-- 5.1.1: the S-box at a
unfoldable pub sub_byte : ℕ → ℕ
sub_byte a = from_bits 8 (affine_bit (inverse a))

-- 5.3.2: the bit i of the inverse affine map's result
unfoldable pub inv_affine_bit : ℕ → ℕ → ℕ
inv_affine_bit b i =
    (bit b ((i + 2) % 8) + bit b ((i + 5) % 8) + bit b ((i + 7) % 8) + bit 0x05 i) % 2

-- 5.3.2: the inverse S-box at b: the inverse affine map, and then the inverse in the field
unfoldable pub inv_sub_byte : ℕ → ℕ
inv_sub_byte b = inverse (from_bits 8 (inv_affine_bit b))
