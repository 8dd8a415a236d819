-- How long elements are.
use Rattle.std.proofs.Common.{◌≡◌, ℕ, zero, suc, ◌+◌, ◌*◌, ◌/◌, ◌%◌, ◌<◌, ◌≤◌, ◌^◌, List, [], ◌∷◌, length, refl, arith, length-append, pow-suc, inl, inr}
use Rattle.std.proofs.lemmas.Bool.{cases_lt, le-ltb, lt-ltb}
use Rattle.asn1_core.specs.Der.{digits_in, digits, len, el, shortest_in, shortest, uint}
use Rattle.asn1_core.specs.WritingLaws.{el_size}

-- ---- the fewest octets of a number

digits_none : (n : ℕ) → length (digits_in zero n) ≡ 1
unfolding digits_in
digits_none n = refl

digits_one : (k n : ℕ) → n < 256 → length (digits_in k n) ≡ 1
unfolding digits_in
digits_one zero n h = refl
digits_one (suc k) n h = rw (lt-ltb n 256 h, digits_in) refl

digits_more : (k n : ℕ) → 256 ≤ n → length (digits_in (suc k) n) ≡ length (digits_in k (n / 256)) + 1
unfolding digits_in
digits_more k n h = rw (le-ltb n 256 h, digits_in) (length-append (digits_in k (n / 256)) ((n % 256) ∷ []))

digits_some : (k n : ℕ) → 1 ≤ length (digits_in k n)
unfolding digits_in
digits_some zero n = omega arith
digits_some (suc k) n =
    elim (cases_lt n 256) [
      | inl lt ↦ omega (arith, digits_one (suc k) n lt)
      | inr le ↦ omega (arith, digits_more k n le)
    ]

-- a greater number has no fewer
digits_grow : (k l m n : ℕ) → m ≤ n → n ≤ l → length (digits_in k m) ≤ length (digits_in l n)
digits_grow zero l m n h i = omega (arith, digits_none m, digits_some l n)
digits_grow (suc k) zero m n h i = omega (arith, digits_one (suc k) m (omega arith), digits_some zero n)
digits_grow (suc k) (suc l) m n h i =
    elim (cases_lt m 256) [
      | inl lt ↦ omega (arith, digits_one (suc k) m lt, digits_some (suc l) n)
      | inr le ↦ omega (arith, digits_more k m le, digits_more l n (omega arith), digits_grow k l (m / 256) (n / 256) (omega arith) (omega arith))
    ]

-- and one below 256 ^ (j + 1) has at most j + 1
digits_within : (j k n : ℕ) → n < 256 * 256 ^ j → length (digits_in k n) ≤ j + 1
digits_within j zero n h = omega (arith, digits_none n)
digits_within zero (suc k) n h = omega (arith, digits_one (suc k) n (omega arith))
digits_within (suc j) (suc k) n h =
    elim (cases_lt n 256) [
      | inl lt ↦ omega (arith, digits_one (suc k) n lt)
      | inr le ↦ omega (arith, digits_more k n le, digits_within j k (n / 256) (omega (arith, pow-suc 256 j)))
    ]

-- ---- lengths

len_one : (n : ℕ) → n < 128 → length (len n) ≡ 1
unfolding len
len_one n h = rw (lt-ltb n 128 h, len) refl

len_more : (n : ℕ) → 128 ≤ n → length (len n) ≡ 1 + length (digits n)
unfolding len
len_more n h = rw (le-ltb n 128 h, len) (omega arith)

len_grow : (m n : ℕ) → m ≤ n → length (len m) ≤ length (len n)
unfolding digits
len_grow m n h =
    elim (cases_lt m 128) [
      | inl lt ↦ elim (cases_lt n 128) [ inl small ↦ omega (arith, len_one m lt, len_one n small) | inr le ↦ omega (arith, len_one m lt, len_more n le) ]
      | inr le ↦ omega (arith, len_more m le, len_more n (omega arith), digits_grow m n m n h (omega arith))
    ]

-- ---- elements

-- of a longer value the element is longer
pub el_more : (t u : ℕ) (v w : List ℕ) → length v ≤ length w → length (el t v) ≤ length (el u w)
el_more t u v w h = omega (arith, h, el_size t v, el_size u w, len_grow (length v) (length w) h)

-- a value of at most n octets, n below 2 ^ 32, has six more at most
pub el_within : (t n : ℕ) (v : List ℕ) → length v ≤ n → n < 4294967296 → length (el t v) ≤ n + 6
unfolding digits
el_within t n v h s =
    elim (cases_lt (length v) 128) [
      | inl lt ↦ omega (arith, h, el_size t v, len_one (length v) lt)
      | inr le ↦ omega (arith, h, el_size t v, len_more (length v) le, digits_within 3 (length v) (length v) (omega (arith, h, s)))
    ]

-- ---- numbers

shortest_none : (n : ℕ) → length (shortest_in zero n) ≡ 1
unfolding shortest_in
shortest_none n = refl

shortest_one : (k n : ℕ) → n < 128 → length (shortest_in (suc k) n) ≡ 1
unfolding shortest_in
shortest_one k n h = rw (lt-ltb n 128 h, shortest_in) refl

shortest_more : (k n : ℕ) → 128 ≤ n → length (shortest_in (suc k) n) ≡ length (shortest_in k (n / 256)) + 1
unfolding shortest_in
shortest_more k n h = rw (le-ltb n 128 h, shortest_in) (length-append (shortest_in k (n / 256)) ((n % 256) ∷ []))

shortest_within : (j k n : ℕ) → n < 128 * 256 ^ j → length (shortest_in k n) ≤ j + 1
shortest_within j zero n h = omega (arith, shortest_none n)
shortest_within zero (suc k) n h = omega (arith, shortest_one k n (omega arith))
shortest_within (suc j) (suc k) n h =
    elim (cases_lt n 128) [
      | inl lt ↦ omega (arith, shortest_one k n lt)
      | inr le ↦ omega (arith, shortest_more k n le, shortest_within j k (n / 256) (omega (arith, pow-suc 256 j)))
    ]

-- the text of a number below 2 ^ 64
pub uint_within : (n : ℕ) → n < 18446744073709551616 → length (uint n) ≤ 15
unfolding shortest
uint_within n h = omega (arith, el_within 2 9 (shortest n) (shortest_within 8 n n (omega (arith, h))) (omega arith))
