-- lemmas only: nothing to believe here
-- Numbers in the fewest octets.
use Rattle.std.proofs.Common.{◌≡◌, ℕ, zero, suc, ◌+◌, ◌*◌, ◌-◌, ◌/◌, ◌%◌, ◌<◌, ◌≤◌, ◌^◌, List, [], ◌∷◌, ◌++◌, length, drop, set, refl, sym, ap, ◌∙◌, append_assoc, arith, length-append, pow-suc, inl, inr, ◌⊎◌}
use Rattle.std.proofs.lemmas.Bool.{cases_lt, le-ltb, lt-ltb}
use Rattle.std.proofs.lemmas.List.{append-nil, drop-set}
use Rattle.asn1_core.specs.OctetLaws.{IsOctets}
use Rattle.asn1_core.specs.Der.{digits_in, digits, shortest_in, shortest}
use Rattle.asn1_core.specs.Reading.{number_on}

digits_zero : (n : ℕ) → digits_in zero n ≡ n ∷ []
unfolding digits_in
digits_zero n = refl

digits_small : (k n : ℕ) → n < 256 → digits_in k n ≡ n ∷ []
unfolding digits_in
digits_small zero n h = refl
digits_small (suc k) n h = rw (lt-ltb n 256 h, digits_in) refl

digits_large : (k n : ℕ) → 256 ≤ n → digits_in (suc k) n ≡ digits_in k (n / 256) ++ (n % 256) ∷ []
unfolding digits_in
digits_large k n h = rw (le-ltb n 256 h, digits_in) refl

digits_enough : (j k n : ℕ) → n ≤ j → n ≤ k → digits_in j n ≡ digits_in k n
digits_enough zero k n h i = digits_small zero n (omega arith) ∙ sym (digits_small k n (omega arith))
digits_enough (suc j) zero n h i = digits_small (suc j) n (omega arith) ∙ sym (digits_small zero n (omega arith))
digits_enough (suc j) (suc k) n h i =
    elim (cases_lt n 256) [
      | inl lt ↦ digits_small (suc j) n lt ∙ sym (digits_small (suc k) n lt)
      | inr le ↦ digits_large j n le ∙ ap (λ (x : List ℕ). x ++ (n % 256) ∷ []) (digits_enough j k (n / 256) (omega arith) (omega arith)) ∙ sym (digits_large k n le)
    ]

pub digits_one : (n : ℕ) → n < 256 → digits n ≡ n ∷ []
unfolding digits
digits_one n h = digits_small n n h

pub digits_split : (n : ℕ) → 256 ≤ n → digits n ≡ digits (n / 256) ++ (n % 256) ∷ []
unfolding digits
digits_split n h =
    let m = n - 1 in
    let e : n ≡ suc m = omega arith in
    let f : digits_in n n ≡ digits_in (suc m) n = digits_enough n (suc m) n (omega arith) (omega arith) in
    f ∙ digits_large m n h ∙ ap (λ (x : List ℕ). x ++ (n % 256) ∷ []) (digits_enough m (n / 256) (n / 256) (omega arith) (omega arith))

pub digits_more : (a b : ℕ) → 0 < a → b < 256 → digits (256 * a + b) ≡ digits a ++ b ∷ []
digits_more a b h i =
    let q : (256 * a + b) / 256 ≡ a = omega arith in
    let r : (256 * a + b) % 256 ≡ b = omega arith in
    digits_split (256 * a + b) (omega arith) ∙ rw (q, r) refl

-- the octets of a number give the number
number_snoc : (n : ℕ) (xs : List ℕ) (b : ℕ) → number_on n (xs ++ b ∷ []) ≡ 256 * number_on n xs + b
number_snoc n [] b = refl
number_snoc n (x ∷ xs) b = number_snoc (256 * n + x) xs b

number_digits_in : (k n : ℕ) → number_on 0 (digits_in k n) ≡ n
number_digits_in zero n = rw (digits_zero n) (omega arith)
number_digits_in (suc k) n =
    elim (cases_lt n 256) [
      | inl lt ↦ rw (digits_small (suc k) n lt) (omega arith)
      | inr le ↦ rw (digits_large k n le) (omega (arith, number_snoc 0 (digits_in k (n / 256)) (n % 256), number_digits_in k (n / 256)))
    ]

pub number_digits : (n : ℕ) → number_on 0 (digits n) ≡ n
unfolding digits
number_digits n = number_digits_in n n

-- and the fewest octets of a number are those that do not begin with 0
pub digits_along : (n : ℕ) (bs : List ℕ) → 0 < n → IsOctets bs → digits (number_on n bs) ≡ digits n ++ bs
digits_along n [] h fits = sym (append-nil (digits n))
digits_along n (b ∷ bs) h fits =
    digits_along (256 * n + b) bs (omega arith) fits.1 ∙ ap (λ (x : List ℕ). x ++ bs) (digits_more n b h fits.0) ∙ append_assoc (digits n) (b ∷ []) bs

pub record Front (ds : List ℕ) : Type 0 where
  pub first : ℕ
  pub others : List ℕ
  pub is : ds ≡ first ∷ others
  pub positive : 0 < first

front_in : (k n : ℕ) → 0 < n → Front (digits_in k n)
front_in zero n h = record { first = n; others = []; is = digits_zero n; positive = h }
front_in (suc k) n h =
    elim (cases_lt n 256) [
      | inl lt ↦ record { first = n; others = []; is = digits_small (suc k) n lt; positive = h }
      | inr le ↦
          let f = front_in k (n / 256) (omega arith) in
          record { first = f.first; others = f.others ++ (n % 256) ∷ []; is = digits_large k n le ∙ ap (λ (x : List ℕ). x ++ (n % 256) ∷ []) f.is; positive = f.positive }
    ]

pub front : (n : ℕ) → 0 < n → Front (digits n)
unfolding digits
front n h = front_in n n h

shorter : (n k : ℕ) → length (digits (n / 256)) ≤ k → 0 < k → length (digits n) ≤ k + 1
shorter n k h pos =
    elim (cases_lt n 256) [
      | inl lt ↦ rw (digits_one n lt) (omega arith)
      | inr le ↦ rw (digits_split n le) (omega (arith, length-append (digits (n / 256)) ((n % 256) ∷ [])))
    ]

pub digits_short : (n : ℕ) → n < 2 ^ 32 → length (digits n) < 5
digits_short n h =
    let one : length (digits (n / 256 / 256 / 256)) ≤ 1 = rw (digits_one (n / 256 / 256 / 256) (omega arith)) (omega arith) in
    let two = shorter (n / 256 / 256) 1 one (omega arith) in
    let three = shorter (n / 256) 2 two (omega arith) in
    let four = shorter n 3 three (omega arith) in
    omega (arith, four)

-- ---- the shortest two's complement

shortest_zero : (n : ℕ) → shortest_in zero n ≡ n ∷ []
unfolding shortest_in
shortest_zero n = refl

shortest_small : (k n : ℕ) → n < 128 → shortest_in k n ≡ n ∷ []
unfolding shortest_in
shortest_small zero n h = refl
shortest_small (suc k) n h = rw (lt-ltb n 128 h, shortest_in) refl

shortest_large : (k n : ℕ) → 128 ≤ n → shortest_in (suc k) n ≡ shortest_in k (n / 256) ++ (n % 256) ∷ []
unfolding shortest_in
shortest_large k n h = rw (le-ltb n 128 h, shortest_in) refl

shortest_enough : (j k n : ℕ) → n ≤ j → n ≤ k → shortest_in j n ≡ shortest_in k n
shortest_enough zero k n h i = shortest_small zero n (omega arith) ∙ sym (shortest_small k n (omega arith))
shortest_enough (suc j) zero n h i = shortest_small (suc j) n (omega arith) ∙ sym (shortest_small zero n (omega arith))
shortest_enough (suc j) (suc k) n h i =
    elim (cases_lt n 128) [
      | inl lt ↦ shortest_small (suc j) n lt ∙ sym (shortest_small (suc k) n lt)
      | inr le ↦ shortest_large j n le ∙ ap (λ (x : List ℕ). x ++ (n % 256) ∷ []) (shortest_enough j k (n / 256) (omega arith) (omega arith)) ∙ sym (shortest_large k n le)
    ]

pub shortest_one : (n : ℕ) → n < 128 → shortest n ≡ n ∷ []
unfolding shortest
shortest_one n h = shortest_small n n h

pub shortest_split : (n : ℕ) → 128 ≤ n → shortest n ≡ shortest (n / 256) ++ (n % 256) ∷ []
unfolding shortest
shortest_split n h =
    let m = n - 1 in
    let e : n ≡ suc m = omega arith in
    let f : shortest_in n n ≡ shortest_in (suc m) n = shortest_enough n (suc m) n (omega arith) (omega arith) in
    f ∙ shortest_large m n h ∙ ap (λ (x : List ℕ). x ++ (n % 256) ∷ []) (shortest_enough m (n / 256) (n / 256) (omega arith) (omega arith))

pub shortest_more : (a b : ℕ) → 128 ≤ 256 * a + b → b < 256 → shortest (256 * a + b) ≡ shortest a ++ b ∷ []
shortest_more a b h i =
    let q : (256 * a + b) / 256 ≡ a = omega arith in
    let r : (256 * a + b) % 256 ≡ b = omega arith in
    shortest_split (256 * a + b) h ∙ rw (q, r) refl

pub shortest_along : (n : ℕ) (bs : List ℕ) → 0 < n → IsOctets bs → shortest (number_on n bs) ≡ shortest n ++ bs
shortest_along n [] h fits = sym (append-nil (shortest n))
shortest_along n (b ∷ bs) h fits =
    shortest_along (256 * n + b) bs (omega arith) fits.1 ∙ ap (λ (x : List ℕ). x ++ bs) (shortest_more n b (omega arith) fits.0) ∙ append_assoc (shortest n) (b ∷ []) bs

number_shortest_in : (k n : ℕ) → number_on 0 (shortest_in k n) ≡ n
number_shortest_in zero n = rw (shortest_zero n) (omega arith)
number_shortest_in (suc k) n =
    elim (cases_lt n 128) [
      | inl lt ↦ rw (shortest_small (suc k) n lt) (omega arith)
      | inr le ↦ rw (shortest_large k n le) (omega (arith, number_snoc 0 (shortest_in k (n / 256)) (n % 256), number_shortest_in k (n / 256)))
    ]

pub number_shortest : (n : ℕ) → number_on 0 (shortest n) ≡ n
unfolding shortest
number_shortest n = number_shortest_in n n

-- the front of a shortest two's complement: one octet below 128, or an octet from 1 to 127, or an octet 0 and one from 128 on
pub record Lead (ds : List ℕ) : Type 0 where
  pub first : ℕ
  pub second : ℕ
  pub others : List ℕ
  pub is : ds ≡ first ∷ second ∷ others
  pub below : first < 128
  pub least : (0 < first) ⊎ (127 < second)

pub front_shortest : (k n : ℕ) → n ≤ k → 128 ≤ n → Lead (shortest n)
front_shortest zero n h le = absurd (omega arith)
front_shortest (suc k) n h le =
    elim (cases_lt (n / 256) 128) [
      | inl lt ↦ record { first = n / 256; second = n % 256; others = []; is = shortest_split n le ∙ rw (shortest_one (n / 256) lt) refl; below = lt; least = elim (cases_lt 0 (n / 256)) [ inl p ↦ inl p | inr z ↦ inr (omega arith) ] }
      | inr ge ↦
          let f = front_shortest k (n / 256) (omega arith) ge in
          record { first = f.first; second = f.second; others = f.others ++ (n % 256) ∷ []; is = shortest_split n le ∙ ap (λ (x : List ℕ). x ++ (n % 256) ∷ []) f.is; below = f.below; least = f.least }
    ]

-- ---- the octets of a shortest two's complement, written from the end of an array

pub shortest_fits : (from m : ℕ) → 128 ≤ m → m < 128 * 256 ^ from → (0 < from) × (m / 256 < 128 * 256 ^ (from - 1))
shortest_fits zero m h lt = absurd (omega arith)
shortest_fits (suc k) m h lt =
    let p = pow-suc 256 k in
    let r : m / 256 < 128 * 256 ^ k = omega (arith, lt, p) in
    let q : suc k - 1 ≡ k = omega arith in
    (omega arith, rw q r)

pub shortest_step : (n m from : ℕ) (octets : List ℕ) → 128 ≤ m → 0 < from → from < length octets
    → shortest n ≡ shortest m ++ drop (from + 1) octets → shortest n ≡ shortest (m / 256) ++ drop (from - 1 + 1) (set octets from (m % 256))
shortest_step n m from octets h pos lt is =
    let k : from - 1 + 1 ≡ from = omega arith in
    let d : drop (from - 1 + 1) (set octets from (m % 256)) ≡ (m % 256) ∷ drop (from + 1) octets = ap (λ (i : ℕ). drop i (set octets from (m % 256))) k ∙ drop-set octets from (m % 256) lt in
    is ∙ ap (λ (x : List ℕ). x ++ drop (from + 1) octets) (shortest_split m h) ∙ append_assoc (shortest (m / 256)) ((m % 256) ∷ []) (drop (from + 1) octets) ∙ ap (λ (x : List ℕ). shortest (m / 256) ++ x) (sym d)

pub shortest_done : (n m from : ℕ) (octets : List ℕ) → m < 128 → from < length octets
    → shortest n ≡ shortest m ++ drop (from + 1) octets → drop from (set octets from m) ≡ shortest n
shortest_done n m from octets h lt is =
    drop-set octets from m lt ∙ sym (is ∙ ap (λ (x : List ℕ). x ++ drop (from + 1) octets) (shortest_one m h))
