-- The field of 256 elements of FIPS 197 section 4: an octet is a polynomial over two elements, bit
-- i being the coefficient of x to the power i; sums are xor, and products are modulo x^8 + x^4 +
-- x^3 + x + 1.
use Rattle.std.specs.Prelude.{ℕ, zero, suc, ◌*◌, ◌/◌, ◌%◌, ◌^◌, ◌==◌, cond, bit_xor}

-- the bit i of n (0 or 1)
abbrev pub bit : ℕ → ℕ → ℕ
bit n i = n / 2 ^ i % 2

-- a times x
unfoldable pub times_x : ℕ → ℕ
times_x a = bit_xor (2 * a) (bit (2 * a) 8 * 0x11b)

-- the sum of (bit i of a) times x^i times b, over i < n
unfoldable pub product_below : ℕ → ℕ → ℕ → ℕ
product_below zero a b = 0
product_below (suc n) a b = bit_xor (a % 2 * b) (product_below n (a / 2) (times_x b))

-- the product
unfoldable pub product : ℕ → ℕ → ℕ
product a b = product_below 8 a b

-- the largest b under n whose product with a is 1; 0 where there is none
unfoldable pub inverse_below : ℕ → ℕ → ℕ
inverse_below zero a = 0
inverse_below (suc n) a = cond (product a n == 1) n (inverse_below n a)

-- the inverse of a, and 0 for 0: that each octet but 0 has one is computed in
-- proofs/AesVectors.antt
unfoldable pub inverse : ℕ → ℕ
inverse a = inverse_below 256 a

-- x to the power n
unfoldable pub power_of_x : ℕ → ℕ
power_of_x zero = 1
power_of_x (suc n) = times_x (power_of_x n)
