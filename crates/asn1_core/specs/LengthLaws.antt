-- lemmas only: nothing to believe here
-- The octets of a length, by its size.
use Rattle.std.proofs.Common.{◌≡◌, ℕ, ◌/◌, ◌%◌, ◌<◌, ◌≤◌, [], ◌∷◌, refl, ◌∙◌, arith}
use Rattle.asn1_core.specs.Der.{len, digits}
use Rattle.asn1_core.specs.DigitLaws.{digits_one, digits_split}
use Rattle.asn1_core.specs.ElementLaws.{len_large}

digits_two : (n : ℕ) → 256 ≤ n → n < 65536 → digits n ≡ (n / 256) ∷ (n % 256) ∷ []
digits_two n h lt = digits_split n h ∙ rw (digits_one (n / 256) (omega arith)) refl

digits_three : (n : ℕ) → 65536 ≤ n → n < 16777216 → digits n ≡ (n / 65536) ∷ (n / 256 % 256) ∷ (n % 256) ∷ []
digits_three n h lt =
    let q : n / 256 / 256 ≡ n / 65536 = omega arith in
    digits_split n (omega arith) ∙ rw (digits_two (n / 256) (omega arith) (omega arith), q) refl

digits_four : (n : ℕ) → 16777216 ≤ n → n < 4294967296 → digits n ≡ (n / 16777216) ∷ (n / 65536 % 256) ∷ (n / 256 % 256) ∷ (n % 256) ∷ []
digits_four n h lt =
    let q : n / 256 / 65536 ≡ n / 16777216 = omega arith in
    let r : n / 256 / 256 ≡ n / 65536 = omega arith in
    digits_split n (omega arith) ∙ rw (digits_three (n / 256) (omega arith) (omega arith), q, r) refl

pub len_one_more : (n : ℕ) → 128 ≤ n → n < 256 → len n ≡ 129 ∷ n ∷ []
len_one_more n h lt = len_large n h ∙ rw (digits_one n lt) refl

pub len_two_more : (n : ℕ) → 256 ≤ n → n < 65536 → len n ≡ 130 ∷ (n / 256) ∷ (n % 256) ∷ []
len_two_more n h lt = len_large n (omega arith) ∙ rw (digits_two n h lt) refl

pub len_three_more : (n : ℕ) → 65536 ≤ n → n < 16777216 → len n ≡ 131 ∷ (n / 65536) ∷ (n / 256 % 256) ∷ (n % 256) ∷ []
len_three_more n h lt = len_large n (omega arith) ∙ rw (digits_three n h lt) refl

pub len_four_more : (n : ℕ) → 16777216 ≤ n → n < 4294967296 → len n ≡ 132 ∷ (n / 16777216) ∷ (n / 65536 % 256) ∷ (n / 256 % 256) ∷ (n % 256) ∷ []
len_four_more n h lt = len_large n (omega arith) ∙ rw (digits_four n h lt) refl
