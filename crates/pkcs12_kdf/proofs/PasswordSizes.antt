-- How many octets a password has.
use Rattle.std.proofs.Common.{◌≡◌, ℕ, zero, suc, inl, inr, ◌+◌, ◌*◌, ◌-◌, ◌≤◌, List, [], ◌∷◌, length, refl, arith, length-append}
use Rattle.std.specs.List.{flat_map}
use Rattle.std.specs.Str.{chars, chars_after, continuation_len, lead_bits}
use Rattle.std.specs.Int.{w16, to_be_bytes}
use Rattle.std.proofs.lemmas.Bool.{lt-ltb, cases_lt, le-ltb}
use Rattle.pkcs12_kdf.specs.Password.{bmp_password, units_of_char}

after_length : (n c : ℕ) (bs : List ℕ) → length (chars_after n c bs) ≤ length bs + 1
after_length zero c [] = omega arith
after_length zero c (b ∷ bs) = omega (arith, after_length (continuation_len b) (lead_bits b) bs)
after_length (suc n) c [] = omega arith
after_length (suc n) c (b ∷ bs) = omega (arith, after_length n (c * 64 + (b - 128)) bs)

chars_length : (p : List ℕ) → length (chars p) ≤ length p
unfolding chars
chars_length [] = omega arith
chars_length (b ∷ bs) = omega (arith, after_length (continuation_len b) (lead_bits b) bs)

unit_size : (u : ℕ) → length (to_be_bytes w16 u) ≡ 2
unit_size u = refl

units_size : (c : ℕ) → length (units_of_char c) ≤ 4
units_size c = elim (cases_lt c 0x1_0000) [
  | inl low ↦ rw (lt-ltb c 0x1_0000 low) (omega (arith, unit_size c))
  | inr high ↦ rw (le-ltb c 0x1_0000 high) (omega arith)
]

all_units_size : (cs : List ℕ) → length (flat_map units_of_char cs) ≤ 4 * length cs
all_units_size [] = omega arith
all_units_size (c ∷ cs) = omega (arith, length-append (units_of_char c) (flat_map units_of_char cs), units_size c, all_units_size cs)

pub password_fits : (p : List ℕ) → length (bmp_password p) ≤ 4 * length p + 2
unfolding bmp_password
password_fits p = omega (arith, length-append (flat_map units_of_char (chars p)) (0 ∷ 0 ∷ []), all_units_size (chars p), chars_length p)
