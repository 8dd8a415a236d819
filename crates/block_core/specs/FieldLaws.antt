-- lemmas only: nothing to believe here
-- The field: a product is linear, and the two circulant matrices undo each other.
use Rattle.std.proofs.Common.{lit<, ◌≡◌, ◌∙◌, sym, ◌+◌, ◌*◌, ◌/◌, ◌%◌, ◌^◌, ◌<◌, ap, ap₂, ℕ, zero, suc, Bool, true, refl, arith, ◌&&◌, ◌==◌, nat_lt, bit_xor}
use Rattle.std.proofs.lemmas.Bool.{and_parts, eqb-true}
use Rattle.std.proofs.lemmas.Bool.Decides.{Decides-ltb}
use Rattle.std.proofs.lemmas.Nat.Bits.{bit_at_xor, bit_at-lt}
use Rattle.std.specs.Int.Bits.{xor_assoc, xor_self, xor_zero_r}
use Rattle.std.proofs.lemmas.Nat.{xor_comm, xor_block, xor_lt}
use Rattle.block_core.specs.Field.{bit, product, product_below, times_x}
use Rattle.block_core.specs.TableLaws.{all_below, all_below_at}

pub xor_interchange : (a b c d : ℕ) → bit_xor (bit_xor a b) (bit_xor c d) ≡ bit_xor (bit_xor a c) (bit_xor b d)
xor_interchange a b c d =
    xor_assoc a b (bit_xor c d)
    ∙ ap (bit_xor a) (sym (xor_assoc b c d) ∙ ap (λ (x : ℕ). bit_xor x d) (xor_comm b c) ∙ xor_assoc c b d)
    ∙ sym (xor_assoc a c (bit_xor b d))

-- twice, one bit, and a multiple by one bit, each of a sum
twice_xor : (a b : ℕ) → 2 * bit_xor a b ≡ bit_xor (2 * a) (2 * b)
twice_xor a b =
    let e = xor_block 1 a b 0 0 (lit< tt) (lit< tt) in
    let l : a * 2 ^ 1 + 0 ≡ 2 * a = omega arith in
    let r : b * 2 ^ 1 + 0 ≡ 2 * b = omega arith in
    let s : bit_xor a b * 2 ^ 1 + 0 ≡ 2 * bit_xor a b = omega arith in
    sym s ∙ sym e ∙ ap₂ bit_xor l r

zero_times : (n : ℕ) → 0 * n ≡ 0
zero_times n = omega arith

one_times : (n : ℕ) → 1 * n ≡ n
one_times n = omega arith

pub scaled_xor : (p q k : ℕ) → p < 2 → q < 2 → (p + q) % 2 * k ≡ bit_xor (p * k) (q * k)
scaled_xor zero zero k hp hq = zero_times k ∙ sym (ap₂ bit_xor (zero_times k) (zero_times k))
scaled_xor zero (suc zero) k hp hq = sym (ap (λ (x : ℕ). bit_xor x (1 * k)) (zero_times k))
scaled_xor (suc zero) zero k hp hq = sym (ap (bit_xor (1 * k)) (zero_times k) ∙ xor_zero_r (1 * k))
scaled_xor (suc zero) (suc zero) k hp hq = zero_times k ∙ sym (xor_self (1 * k))
scaled_xor (suc (suc p)) q k hp hq = absurd (omega arith)
scaled_xor zero (suc (suc q)) k hp hq = absurd (omega arith)
scaled_xor (suc zero) (suc (suc q)) k hp hq = absurd (omega arith)

pub times_x-xor : (a b : ℕ) → times_x (bit_xor a b) ≡ bit_xor (times_x a) (times_x b)
unfolding times_x
times_x-xor a b =
    ap₂ bit_xor (twice_xor a b)
    (ap (λ (n : ℕ). bit n 8 * 0x11b) (twice_xor a b)
    ∙ ap (λ (n : ℕ). n * 0x11b) (bit_at_xor (2 * a) (2 * b) 8)
    ∙ scaled_xor (bit (2 * a) 8) (bit (2 * b) 8) 0x11b (bit_at-lt (2 * a) 8) (bit_at-lt (2 * b) 8))
    ∙ xor_interchange (2 * a) (2 * b) (bit (2 * a) 8 * 0x11b) (bit (2 * b) 8 * 0x11b)

-- one bit of k times a sum
bit_times_xor : (p a b : ℕ) → p < 2 → p * bit_xor a b ≡ bit_xor (p * a) (p * b)
bit_times_xor zero a b h = zero_times (bit_xor a b) ∙ sym (ap₂ bit_xor (zero_times a) (zero_times b))
bit_times_xor (suc zero) a b h = one_times (bit_xor a b) ∙ sym (ap₂ bit_xor (one_times a) (one_times b))
bit_times_xor (suc (suc p)) a b h = absurd (omega arith)

pub product_below-xor : (n k a b : ℕ) → product_below n k (bit_xor a b) ≡ bit_xor (product_below n k a) (product_below n k b)
unfolding product_below
product_below-xor zero k a b = refl
product_below-xor (suc n) k a b =
    ap₂ bit_xor (bit_times_xor (k % 2) a b (omega arith))
    (ap (product_below n (k / 2)) (times_x-xor a b) ∙ product_below-xor n (k / 2) (times_x a) (times_x b))
    ∙ xor_interchange (k % 2 * a) (k % 2 * b) (product_below n (k / 2) (times_x a)) (product_below n (k / 2) (times_x b))

pub product-xor : (k a b : ℕ) → product k (bit_xor a b) ≡ bit_xor (product k a) (product k b)
unfolding product
product-xor k a b = product_below-xor 8 k a b

-- the sum of four
abbrev pub sum4 : ℕ → ℕ → ℕ → ℕ → ℕ
sum4 a b c d = bit_xor (bit_xor a b) (bit_xor c d)

pub product-sum4 : (k a b c d : ℕ) → product k (sum4 a b c d) ≡ sum4 (product k a) (product k b) (product k c) (product k d)
product-sum4 k a b c d = product-xor k (bit_xor a b) (bit_xor c d) ∙ ap₂ bit_xor (product-xor k a b) (product-xor k c d)

pub sum4-xor : (a b c d e f g h : ℕ) → bit_xor (sum4 a b c d) (sum4 e f g h) ≡ sum4 (bit_xor a e) (bit_xor b f) (bit_xor c g) (bit_xor d h)
sum4-xor a b c d e f g h =
    xor_interchange (bit_xor a b) (bit_xor c d) (bit_xor e f) (bit_xor g h)
    ∙ ap₂ bit_xor (xor_interchange a b e f) (xor_interchange c d g h)

-- rows and columns
pub sum4_across : (a b c d e f g h i j k l m n o p : ℕ)
    → sum4 (sum4 a b c d) (sum4 e f g h) (sum4 i j k l) (sum4 m n o p)
    ≡ sum4 (sum4 a e i m) (sum4 b f j n) (sum4 c g k o) (sum4 d h l p)
sum4_across a b c d e f g h i j k l m n o p =
    ap₂ bit_xor (sum4-xor a b c d e f g h) (sum4-xor i j k l m n o p)
    ∙ sum4-xor (bit_xor a e) (bit_xor b f) (bit_xor c g) (bit_xor d h) (bit_xor i m) (bit_xor j n) (bit_xor k o) (bit_xor l p)

-- the four sums of k0 times one number, k1 times another, ..
abbrev sum_of : ℕ → ℕ → ℕ → ℕ → ℕ → ℕ → ℕ → ℕ → ℕ → ℕ
sum_of k0 k1 k2 k3 m0 m1 m2 m3 a = sum4 (product k0 (product m0 a)) (product k1 (product m1 a)) (product k2 (product m2 a)) (product k3 (product m3 a))

-- whether the circulant matrix of k undoes that of m at the octet a of one row: the octet of its own row comes back,
-- and the others cancel
pub cancels : ℕ → ℕ → ℕ → ℕ → ℕ → ℕ → ℕ → ℕ → ℕ → Bool
cancels k0 k1 k2 k3 m0 m1 m2 m3 a =
    (sum_of k0 k1 k2 k3 m0 m3 m2 m1 a == a)
    && (sum_of k0 k1 k2 k3 m1 m0 m3 m2 a == 0)
    && (sum_of k0 k1 k2 k3 m2 m1 m0 m3 a == 0)
    && (sum_of k0 k1 k2 k3 m3 m2 m1 m0 a == 0)

cancels_at : (k0 k1 k2 k3 m0 m1 m2 m3 : ℕ) → all_below (cancels k0 k1 k2 k3 m0 m1 m2 m3) 256 ≡ true → (a : ℕ) → a < 256
    → (sum_of k0 k1 k2 k3 m0 m3 m2 m1 a ≡ a)
    × (sum_of k0 k1 k2 k3 m1 m0 m3 m2 a ≡ 0)
    × (sum_of k0 k1 k2 k3 m2 m1 m0 m3 a ≡ 0)
    × (sum_of k0 k1 k2 k3 m3 m2 m1 m0 a ≡ 0)
unfolding cancels
cancels_at k0 k1 k2 k3 m0 m1 m2 m3 t a h =
    let all = all_below_at (cancels k0 k1 k2 k3 m0 m1 m2 m3) 256 t a h in
    let last = and_parts _ _ all in
    let third = and_parts _ _ last.0 in
    let second = and_parts _ _ third.0 in
    (eqb-true _ _ second.0, eqb-true _ _ second.1, eqb-true _ _ third.1, eqb-true _ _ last.1)

pub unmixed : all_below (cancels 14 11 13 9 2 3 1 1) 256 ≡ true
unfolding cancels product product_below times_x
unmixed = refl

pub mixed : all_below (cancels 2 3 1 1 14 11 13 9) 256 ≡ true
unfolding cancels product product_below times_x
mixed = refl

pub sum4_turn : (a b c d : ℕ) → sum4 a b c d ≡ sum4 d a b c
sum4_turn a b c d =
    xor_comm (bit_xor a b) (bit_xor c d)
    ∙ ap (λ (x : ℕ). bit_xor x (bit_xor a b)) (xor_comm c d)
    ∙ xor_interchange d c a b
    ∙ ap (bit_xor (bit_xor d a)) (xor_comm c b)

-- a row of the product with m, its octets multiplied by k, the column begun at each of its rows
row0 : (k m0 m1 m2 m3 a b c d : ℕ)
    → product k (sum4 (product m0 a) (product m1 b) (product m2 c) (product m3 d))
    ≡ sum4 (product k (product m0 a)) (product k (product m1 b)) (product k (product m2 c)) (product k (product m3 d))
row0 k m0 m1 m2 m3 a b c d = product-sum4 k (product m0 a) (product m1 b) (product m2 c) (product m3 d)

row1 : (k m0 m1 m2 m3 a b c d : ℕ)
    → product k (sum4 (product m0 b) (product m1 c) (product m2 d) (product m3 a))
    ≡ sum4 (product k (product m3 a)) (product k (product m0 b)) (product k (product m1 c)) (product k (product m2 d))
row1 k m0 m1 m2 m3 a b c d =
    row0 k m0 m1 m2 m3 b c d a
    ∙ sum4_turn (product k (product m0 b)) (product k (product m1 c)) (product k (product m2 d)) (product k (product m3 a))

row2 : (k m0 m1 m2 m3 a b c d : ℕ)
    → product k (sum4 (product m0 c) (product m1 d) (product m2 a) (product m3 b))
    ≡ sum4 (product k (product m2 a)) (product k (product m3 b)) (product k (product m0 c)) (product k (product m1 d))
row2 k m0 m1 m2 m3 a b c d =
    row1 k m0 m1 m2 m3 b c d a
    ∙ sum4_turn (product k (product m3 b)) (product k (product m0 c)) (product k (product m1 d)) (product k (product m2 a))

row3 : (k m0 m1 m2 m3 a b c d : ℕ)
    → product k (sum4 (product m0 d) (product m1 a) (product m2 b) (product m3 c))
    ≡ sum4 (product k (product m1 a)) (product k (product m2 b)) (product k (product m3 c)) (product k (product m0 d))
row3 k m0 m1 m2 m3 a b c d =
    row2 k m0 m1 m2 m3 b c d a
    ∙ sum4_turn (product k (product m2 b)) (product k (product m3 c)) (product k (product m0 d)) (product k (product m1 a))

pub cancelled : (k0 k1 k2 k3 m0 m1 m2 m3 : ℕ) → all_below (cancels k0 k1 k2 k3 m0 m1 m2 m3) 256 ≡ true
    → (a b c d : ℕ) → a < 256 → b < 256 → c < 256 → d < 256
    → sum4
    (product k0 (sum4 (product m0 a) (product m1 b) (product m2 c) (product m3 d)))
    (product k1 (sum4 (product m0 b) (product m1 c) (product m2 d) (product m3 a)))
    (product k2 (sum4 (product m0 c) (product m1 d) (product m2 a) (product m3 b)))
    (product k3 (sum4 (product m0 d) (product m1 a) (product m2 b) (product m3 c)))
    ≡ a
cancelled k0 k1 k2 k3 m0 m1 m2 m3 table a b c d ha hb hc hd =
    let e0 = row0 k0 m0 m1 m2 m3 a b c d in
    let e1 = row1 k1 m0 m1 m2 m3 a b c d in
    let e2 = row2 k2 m0 m1 m2 m3 a b c d in
    let e3 = row3 k3 m0 m1 m2 m3 a b c d in
    let ea = (cancels_at k0 k1 k2 k3 m0 m1 m2 m3 table a ha).0 in
    let eb = (cancels_at k0 k1 k2 k3 m0 m1 m2 m3 table b hb).1 in
    let ec = (cancels_at k0 k1 k2 k3 m0 m1 m2 m3 table c hc).2 in
    let ed = (cancels_at k0 k1 k2 k3 m0 m1 m2 m3 table d hd).3 in
    (λ i. sum4 (e0 i) (e1 i) (e2 i) (e3 i))
    ∙ sum4_across
    (product k0 (product m0 a)) (product k0 (product m1 b)) (product k0 (product m2 c)) (product k0 (product m3 d))
    (product k1 (product m3 a)) (product k1 (product m0 b)) (product k1 (product m1 c)) (product k1 (product m2 d))
    (product k2 (product m2 a)) (product k2 (product m3 b)) (product k2 (product m0 c)) (product k2 (product m1 d))
    (product k3 (product m1 a)) (product k3 (product m2 b)) (product k3 (product m3 c)) (product k3 (product m0 d))
    ∙ (λ i. sum4 (ea i) (eb i) (ec i) (ed i))
    ∙ xor_zero_r (bit_xor a 0) ∙ xor_zero_r a

times_x_small : all_below (λ a. nat_lt (times_x a) 256) 256 ≡ true
unfolding times_x
times_x_small = refl

times_x-lt : (a : ℕ) → a < 256 → times_x a < 256
times_x-lt a h = (Decides-ltb _ _).0 (all_below_at (λ b. nat_lt (times_x b) 256) 256 times_x_small a h)

bit_times-lt : (p a : ℕ) → p < 2 → a < 256 → p * a < 256
bit_times-lt zero a h l = omega arith
bit_times-lt (suc zero) a h l = omega arith
bit_times-lt (suc (suc p)) a h l = absurd (omega arith)

product_below-lt : (n k a : ℕ) → a < 256 → product_below n k a < 256
unfolding product_below
product_below-lt zero k a h = lit< tt
product_below-lt (suc n) k a h =
    xor_lt 8 (k % 2 * a) (product_below n (k / 2) (times_x a)) (bit_times-lt (k % 2) a (omega arith) h)
    (product_below-lt n (k / 2) (times_x a) (times_x-lt a h))

pub product-lt : (k a : ℕ) → a < 256 → product k a < 256
unfolding product
product-lt k a h = product_below-lt 8 k a h

-- what the code computes, at each octet
is_times_x : ℕ → Bool
is_times_x a = bit_xor (a * 2 % 256) (a / 128 * 27) == times_x a

all_times_x : all_below is_times_x 256 ≡ true
unfolding is_times_x times_x
all_times_x = refl

pub times_x_code : (a : ℕ) → a < 256 → bit_xor (a * 2 % 256) (a / 128 * 27) ≡ times_x a
unfolding is_times_x
times_x_code a h = eqb-true _ _ (all_below_at is_times_x 256 all_times_x a h)
