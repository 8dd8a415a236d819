-- Worked steps of FIPS 197, computed from the definitions; whole blocks are lines of tests/vectors/block_ciphers.txt.
use Rattle.std.proofs.Common.{◌≡◌, ◌/◌, ◌%◌, ◌^◌, ◌==◌, ℕ, zero, suc, Bool, true, List, [], ◌∷◌, refl}
use Rattle.block_core.specs.Field.{product, product_below, times_x, inverse, inverse_below}
use Rattle.block_core.specs.Sbox.{sub_byte, affine_bit, from_bits}
use Rattle.block_core.specs.AesRounds.{mix_columns, times_circulant, shift_rows, sub_bytes}
use Rattle.block_core.specs.TableLaws.{all_below}

-- the n octets of a number, the highest first
octets : ℕ → ℕ → List ℕ
octets zero x = []
octets (suc n) x = x / 256 ^ n % 256 ∷ octets n x

-- section 4.2: the product of 57 and 83
product_of_57_and_83 : product 0x57 0x83 ≡ 0xc1
unfolding product product_below times_x
product_of_57_and_83 = refl

-- whether the inverse of a + 1 is one
is_inverted : ℕ → Bool
is_inverted a = product (suc a) (inverse (suc a)) == 1

-- section 4.4: each octet but 0 has an inverse
inverses : all_below is_inverted 255 ≡ true
unfolding is_inverted product product_below times_x inverse inverse_below
inverses = refl

-- section 5.1.1: the S-box at 53
s_box_of_53 : sub_byte 0x53 ≡ 0xed
unfolding sub_byte inverse inverse_below affine_bit from_bits product product_below times_x
s_box_of_53 = refl

-- appendix B: the first round's steps
substituted : sub_bytes (octets 16 0x193de3bea0f4e22b9ac68d2ae9f84808) ≡ octets 16 0xd42711aee0bf98f1b8b45de51e415230
unfolding octets sub_bytes sub_byte inverse inverse_below affine_bit from_bits product product_below times_x
substituted = refl

shifted : shift_rows (octets 16 0xd42711aee0bf98f1b8b45de51e415230) ≡ octets 16 0xd4bf5d30e0b452aeb84111f11e2798e5
unfolding octets shift_rows
shifted = refl

mixed : mix_columns (octets 16 0xd4bf5d30e0b452aeb84111f11e2798e5) ≡ octets 16 0x046681e5e0cb199a48f8d37a2806264c
unfolding octets mix_columns times_circulant product product_below times_x
mixed = refl
