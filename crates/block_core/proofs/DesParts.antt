-- The cipher function of DES on words, by the joined tables.
use Rattle.std.proofs.Common.{lit<, ◌≡◌, ◌∙◌, sym, ap, ap₂, ℕ, zero, suc, ◌+◌, ◌-◌, ◌*◌, ◌/◌, ◌%◌, ◌^◌, ◌<◌, List, [], ◌∷◌, ◌++◌, length, get_or, take, drop, replicate, refl, arith, map, bit_xor, zero-add}
use Rattle.std.specs.Prelude.{bit_or}
use Rattle.std.proofs.Math.Nat.{pow-succ'}
use Rattle.std.specs.Int.{w32, to_be_bytes, rotate_left, rotate_right}
use Rattle.std.specs.Int.Bits.{xor_assoc, xor_zero_r}
use Rattle.std.specs.List.{range_with_len}
use Rattle.std.proofs.lemmas.Nat.{xor_block, xor_shr, xor_mod, or_shifted, or_comm, shr_high}
use Rattle.std.proofs.lemmas.List.{length-append, length-replicate, append-nil, same_lists, get_or_default}
use Rattle.std.proofs.lemmas.List.FromFn.{get_or-map-range_with_len}
use Rattle.block_core.specs.Bits.{AreBits, bits_of, number_of, number_from, pick, xor_each}
use Rattle.block_core.specs.BitsLaws.{bits_append, bits_cons, bits_none, bits_bits_of, length-bits_of, number_of-lt, bits_pick, length-pick}
use Rattle.block_core.specs.DesTables.{expansion, permutation, s_box_1, s_box_2, s_box_3, s_box_4, s_box_5, s_box_6, s_box_7, s_box_8}
use Rattle.block_core.specs.Des.{substitute, substitute_all, cipher_function}
use Rattle.block_core.specs.DesWords.{joined, key_of, six_of}
use Rattle.block_core.specs.SboxLaws.{entry}
use Rattle.block_core.specs.declared.des_joined.TheConstants.{SP1, SP2, SP3, SP4, SP5, SP6, SP7, SP8}

get_or-xor_each : (xs ys : List ℕ) (i : ℕ) → length xs ≡ length ys → get_or (xor_each xs ys) i 0 ≡ bit_xor (get_or xs i 0) (get_or ys i 0)
unfolding xor_each
get_or-xor_each [] [] i l = refl
get_or-xor_each [] (y ∷ ys) i l = absurd (omega arith)
get_or-xor_each (x ∷ xs) [] i l = absurd (omega arith)
get_or-xor_each (x ∷ xs) (y ∷ ys) zero l = refl
get_or-xor_each (x ∷ xs) (y ∷ ys) (suc i) l = get_or-xor_each xs ys i (omega arith)

-- picking, and reading a number, of a sum
number_picked : (table xs ys : List ℕ) → length xs ≡ length ys → AreBits xs → AreBits ys → (m n : ℕ)
    → number_from (bit_xor m n) (map (λ p. get_or (xor_each xs ys) (p - 1) 0) table)
    ≡ bit_xor (number_from m (map (λ p. get_or xs (p - 1) 0) table)) (number_from n (map (λ p. get_or ys (p - 1) 0) table))
unfolding number_from
number_picked [] xs ys l bx by m n = refl
number_picked (p ∷ ps) xs ys l bx by m n =
    let x : ℕ = get_or xs (p - 1) 0 in
    let y : ℕ = get_or ys (p - 1) 0 in
    let block : bit_xor (m * 2 ^ 1 + x) (n * 2 ^ 1 + y) ≡ bit_xor m n * 2 ^ 1 + bit_xor x y = xor_block 1 m n x y (bx (p - 1)) (by (p - 1)) in
    let em : m * 2 ^ 1 + x ≡ 2 * m + x = omega arith in
    let en : n * 2 ^ 1 + y ≡ 2 * n + y = omega arith in
    let step : 2 * bit_xor m n + get_or (xor_each xs ys) (p - 1) 0 ≡ bit_xor (2 * m + x) (2 * n + y) =
    ap (λ (z : ℕ). 2 * bit_xor m n + z) (get_or-xor_each xs ys (p - 1) l)
    ∙ (let q : 2 * bit_xor m n + bit_xor x y ≡ bit_xor m n * 2 ^ 1 + bit_xor x y = omega arith in q)
    ∙ sym block ∙ ap₂ bit_xor em en in
    ap (λ (z : ℕ). number_from z (map (λ p. get_or (xor_each xs ys) (p - 1) 0) ps)) step
    ∙ number_picked ps xs ys l bx by (2 * m + x) (2 * n + y)

-- the number of the bits that a table picks
abbrev pub picked_number : List ℕ → List ℕ → ℕ
picked_number table bs = number_of (pick table bs)

picked_number-xor : (table xs ys : List ℕ) → length xs ≡ length ys → AreBits xs → AreBits ys
    → picked_number table (xor_each xs ys) ≡ bit_xor (picked_number table xs) (picked_number table ys)
unfolding pick number_of
picked_number-xor table xs ys l bx by = number_picked table xs ys l bx by 0 0

-- a part of a list, and the rest, as a sum
beside : (s r : List ℕ) → xor_each (s ++ replicate (length r) 0) (replicate (length s) 0 ++ r) ≡ s ++ r
unfolding xor_each
beside [] [] = refl
beside [] (y ∷ ys) = ap (λ (z : List ℕ). y ∷ z) (beside [] ys)
beside (x ∷ xs) r = ap₂ (λ (a : ℕ) (z : List ℕ). a ∷ z) (xor_zero_r x) (beside xs r)

behind : (k : ℕ) (xs ys : List ℕ) → xor_each (replicate k 0 ++ xs) (replicate k 0 ++ ys) ≡ replicate k 0 ++ xor_each xs ys
unfolding xor_each
behind zero xs ys = refl
behind (suc k) xs ys = ap (λ (z : List ℕ). 0 ∷ z) (behind k xs ys)

pub bits_zeros : (n : ℕ) → AreBits (replicate n 0)
bits_zeros zero = bits_none
bits_zeros (suc n) = bits_cons 0 (replicate n 0) (lit< tt) (bits_zeros n)

-- one step: the word of the front part, and the sum of the rest
pub part_step : (table : List ℕ) (k m n : ℕ) (s r : List ℕ) → length s ≡ m → length r ≡ n → AreBits s → AreBits r
    → picked_number table (replicate k 0 ++ (s ++ r))
    ≡ bit_xor (picked_number table (replicate k 0 ++ (s ++ replicate n 0))) (picked_number table (replicate k 0 ++ (replicate m 0 ++ r)))
part_step table k m n s r em en bs br =
    let zr : List ℕ = replicate (length r) 0 in
    let zs : List ℕ = replicate (length s) 0 in
    let l : length (replicate k 0 ++ (s ++ zr)) ≡ length (replicate k 0 ++ (zs ++ r)) =
    omega (
      arith,
      length-append (replicate k 0) (s ++ zr),
      length-append (replicate k 0) (zs ++ r),
      length-append s zr,
      length-append zs r,
      length-replicate {A = ℕ} (length r) 0,
      length-replicate {A = ℕ} (length s) 0,
    ) in
    let bx : AreBits (replicate k 0 ++ (s ++ zr)) = bits_append (replicate k 0) (s ++ zr) (bits_zeros k) (bits_append s zr bs (bits_zeros (length r))) in
    let by : AreBits (replicate k 0 ++ (zs ++ r)) = bits_append (replicate k 0) (zs ++ r) (bits_zeros k) (bits_append zs r (bits_zeros (length s)) br) in
    ap (picked_number table) (sym (behind k (s ++ zr) (zs ++ r) ∙ ap (λ (z : List ℕ). replicate k 0 ++ z) (beside s r)))
    ∙ picked_number-xor table (replicate k 0 ++ (s ++ zr)) (replicate k 0 ++ (zs ++ r)) l bx by
    ∙ ap₂ (λ (x y : ℕ). bit_xor (picked_number table (replicate k 0 ++ (s ++ replicate x 0))) (picked_number table (replicate k 0 ++ (replicate y 0 ++ r)))) en em

-- the bits of a number of bits
pub number_split : (bs : List ℕ) (n : ℕ) → number_from n bs ≡ n * 2 ^ length bs + number_from 0 bs
unfolding number_from
number_split [] n = omega arith
number_split (b ∷ bs) n =
    let p : ℕ = 2 ^ length bs in
    let one : number_from (2 * n + b) bs ≡ (2 * n + b) * p + number_from 0 bs = number_split bs (2 * n + b) in
    let two : number_from (2 * 0 + b) bs ≡ (2 * 0 + b) * p + number_from 0 bs = number_split bs (2 * 0 + b) in
    let twice : 2 ^ suc (length bs) ≡ 2 * p = pow-succ' 2 (length bs) in
    let spread : (2 * n + b) * p ≡ n * (2 * p) + (2 * 0 + b) * p = grind arith in
    one ∙ omega (arith, spread, two) ∙ ap (λ (q : ℕ). n * q + number_from (2 * 0 + b) bs) (sym twice)

bit_is : (bs : List ℕ) (n i : ℕ) → AreBits bs → i < length bs → number_from n bs / 2 ^ (length bs - 1 - i) % 2 ≡ get_or bs i 0
unfolding number_from number_of
bit_is [] n i is h = absurd (omega arith)
bit_is (b ∷ bs) n zero is h =
    let e : suc (length bs) - 1 - 0 ≡ length bs = omega arith in
    let low : number_of bs < 2 ^ length bs = number_of-lt bs (length bs) (λ i. is (suc i)) (omega arith) in
    let one : b < 2 = is 0 in
    let last : (2 * n + b) % 2 ≡ b = omega arith in
    ap₂ (λ (x k : ℕ). x / 2 ^ k % 2) (number_split bs (2 * n + b)) e
    ∙ ap (λ (x : ℕ). x % 2) (shr_high (2 * n + b) (length bs) (number_from 0 bs) low) ∙ last
bit_is (b ∷ bs) n (suc i) is h =
    let e : suc (length bs) - 1 - suc i ≡ length bs - 1 - i = omega arith in
    ap (λ (k : ℕ). number_from (2 * n + b) bs / 2 ^ k % 2) e ∙ bit_is bs (2 * n + b) i (λ j. is (suc j)) (omega arith)

pub bits_of_number : (w : ℕ) (bs : List ℕ) → length bs ≡ w → AreBits bs → bits_of w (number_of bs) ≡ bs
unfolding bits_of number_of
bits_of_number w bs l is =
    same_lists (bits_of w (number_from 0 bs)) bs (length-bits_of w (number_from 0 bs) ∙ sym l) (λ i d h.
    let lt : i < w = omega (arith, length-bits_of w (number_from 0 bs)) in
    get_or-map-range_with_len (λ j. number_from 0 bs / 2 ^ (w - 1 - j) % 2) 0 w i i d lt (zero-add i)
    ∙ ap (λ (k : ℕ). number_from 0 bs / 2 ^ (k - 1 - i) % 2) (sym l)
    ∙ bit_is bs 0 i is (omega (arith, l))
    ∙ get_or_default bs i 0 d (omega (arith, l)))

sp1_is : SP1 ≡ map (joined s_box_1 0) (range_with_len 0 64)
unfolding joined pick substitute number_of number_from bits_of
sp1_is = refl

sp2_is : SP2 ≡ map (joined s_box_2 1) (range_with_len 0 64)
unfolding joined pick substitute number_of number_from bits_of
sp2_is = refl

sp3_is : SP3 ≡ map (joined s_box_3 2) (range_with_len 0 64)
unfolding joined pick substitute number_of number_from bits_of
sp3_is = refl

sp4_is : SP4 ≡ map (joined s_box_4 3) (range_with_len 0 64)
unfolding joined pick substitute number_of number_from bits_of
sp4_is = refl

sp5_is : SP5 ≡ map (joined s_box_5 4) (range_with_len 0 64)
unfolding joined pick substitute number_of number_from bits_of
sp5_is = refl

sp6_is : SP6 ≡ map (joined s_box_6 5) (range_with_len 0 64)
unfolding joined pick substitute number_of number_from bits_of
sp6_is = refl

sp7_is : SP7 ≡ map (joined s_box_7 6) (range_with_len 0 64)
unfolding joined pick substitute number_of number_from bits_of
sp7_is = refl

sp8_is : SP8 ≡ map (joined s_box_8 7) (range_with_len 0 64)
unfolding joined pick substitute number_of number_from bits_of
sp8_is = refl

pub bit_of_xor : (x y k : ℕ) → bit_xor x y / 2 ^ k % 2 ≡ bit_xor (x / 2 ^ k % 2) (y / 2 ^ k % 2)
bit_of_xor x y k = ap (λ (z : ℕ). z % 2) (xor_shr x y k) ∙ xor_mod (x / 2 ^ k) (y / 2 ^ k) 1

-- octet r of a sum
octet_of_xor : (x y k : ℕ) → bit_xor x y / 2 ^ k % 256 ≡ bit_xor (x / 2 ^ k % 256) (y / 2 ^ k % 256)
octet_of_xor x y k = ap (λ (z : ℕ). z % 256) (xor_shr x y k) ∙ xor_mod (x / 2 ^ k) (y / 2 ^ k) 8

-- six bits of a sum, by its remainder
six_of_xor : (x y : ℕ) → bits_of 6 (bit_xor x y % 64) ≡ xor_each (bits_of 6 x) (bits_of 6 y)
unfolding bits_of xor_each
six_of_xor x y =
    let z : ℕ = bit_xor x y in
    let e0 : z % 64 / 2 ^ 0 % 2 ≡ z / 2 ^ 0 % 2 = omega arith in
    let e1 : z % 64 / 2 ^ 1 % 2 ≡ z / 2 ^ 1 % 2 = omega arith in
    let e2 : z % 64 / 2 ^ 2 % 2 ≡ z / 2 ^ 2 % 2 = omega arith in
    let e3 : z % 64 / 2 ^ 3 % 2 ≡ z / 2 ^ 3 % 2 = omega arith in
    let e4 : z % 64 / 2 ^ 4 % 2 ≡ z / 2 ^ 4 % 2 = omega arith in
    let e5 : z % 64 / 2 ^ 5 % 2 ≡ z / 2 ^ 5 % 2 = omega arith in
    (λ i. e5 i ∷ e4 i ∷ e3 i ∷ e2 i ∷ e1 i ∷ e0 i ∷ [])
    ∙ (λ i. bit_of_xor x y 5 i ∷ bit_of_xor x y 4 i ∷ bit_of_xor x y 3 i ∷ bit_of_xor x y 2 i ∷ bit_of_xor x y 1 i ∷ bit_of_xor x y 0 i ∷ [])

-- the word rotated right by three
pub right_three : (x : ℕ) → x < 2 ^ 32 → rotate_right w32 x 3 ≡ x % 8 * 2 ^ 29 + x / 8
right_three x h =
    let cut : x * 2 ^ 29 % 2 ^ 32 ≡ x % 8 * 2 ^ 29 = omega arith in
    let low : x / 2 ^ 3 < 2 ^ 29 = omega arith in
    or_comm (x / 2 ^ 3) (x * 2 ^ 29 % 2 ^ 32) ∙ ap (λ (y : ℕ). bit_or y (x / 2 ^ 3)) cut ∙ or_shifted (x % 8) 29 (x / 2 ^ 3) low

-- and left by one
pub left_one : (x : ℕ) → x < 2 ^ 32 → rotate_left w32 x 1 ≡ x % 2 ^ 31 * 2 ^ 1 + x / 2 ^ 31
left_one x h =
    let cut : x * 2 ^ 1 % 2 ^ 32 ≡ x % 2 ^ 31 * 2 ^ 1 = omega arith in
    let low : x / 2 ^ 31 < 2 ^ 1 = omega arith in
    ap (λ (y : ℕ). bit_or y (x / 2 ^ 31)) cut ∙ or_shifted (x % 2 ^ 31) 1 (x / 2 ^ 31) low

-- group 0 of E
group_0 : (x a : ℕ) → x < 2 ^ 32 → a ≡ x % 8 * 2 ^ 29 + x / 8 → six_of a 0 ≡ take 6 (drop 0 (pick expansion (bits_of 32 x)))
unfolding bits_of pick
group_0 x a h is =
    let e0 : a / 2 ^ 24 % 256 / 2 ^ 5 % 2 ≡ x / 2 ^ 0 % 2 = omega arith in
    let e1 : a / 2 ^ 24 % 256 / 2 ^ 4 % 2 ≡ x / 2 ^ 31 % 2 = omega arith in
    let e2 : a / 2 ^ 24 % 256 / 2 ^ 3 % 2 ≡ x / 2 ^ 30 % 2 = omega arith in
    let e3 : a / 2 ^ 24 % 256 / 2 ^ 2 % 2 ≡ x / 2 ^ 29 % 2 = omega arith in
    let e4 : a / 2 ^ 24 % 256 / 2 ^ 1 % 2 ≡ x / 2 ^ 28 % 2 = omega arith in
    let e5 : a / 2 ^ 24 % 256 / 2 ^ 0 % 2 ≡ x / 2 ^ 27 % 2 = omega arith in
    λ i. e0 i ∷ e1 i ∷ e2 i ∷ e3 i ∷ e4 i ∷ e5 i ∷ []

-- group 1 of E
group_1 : (x a : ℕ) → x < 2 ^ 32 → a ≡ x % 2 ^ 31 * 2 ^ 1 + x / 2 ^ 31 → six_of a 0 ≡ take 6 (drop 6 (pick expansion (bits_of 32 x)))
unfolding bits_of pick
group_1 x a h is =
    let e0 : a / 2 ^ 24 % 256 / 2 ^ 5 % 2 ≡ x / 2 ^ 28 % 2 = omega arith in
    let e1 : a / 2 ^ 24 % 256 / 2 ^ 4 % 2 ≡ x / 2 ^ 27 % 2 = omega arith in
    let e2 : a / 2 ^ 24 % 256 / 2 ^ 3 % 2 ≡ x / 2 ^ 26 % 2 = omega arith in
    let e3 : a / 2 ^ 24 % 256 / 2 ^ 2 % 2 ≡ x / 2 ^ 25 % 2 = omega arith in
    let e4 : a / 2 ^ 24 % 256 / 2 ^ 1 % 2 ≡ x / 2 ^ 24 % 2 = omega arith in
    let e5 : a / 2 ^ 24 % 256 / 2 ^ 0 % 2 ≡ x / 2 ^ 23 % 2 = omega arith in
    λ i. e0 i ∷ e1 i ∷ e2 i ∷ e3 i ∷ e4 i ∷ e5 i ∷ []

-- group 2 of E
group_2 : (x a : ℕ) → x < 2 ^ 32 → a ≡ x % 8 * 2 ^ 29 + x / 8 → six_of a 1 ≡ take 6 (drop 12 (pick expansion (bits_of 32 x)))
unfolding bits_of pick
group_2 x a h is =
    let e0 : a / 2 ^ 16 % 256 / 2 ^ 5 % 2 ≡ x / 2 ^ 24 % 2 = omega arith in
    let e1 : a / 2 ^ 16 % 256 / 2 ^ 4 % 2 ≡ x / 2 ^ 23 % 2 = omega arith in
    let e2 : a / 2 ^ 16 % 256 / 2 ^ 3 % 2 ≡ x / 2 ^ 22 % 2 = omega arith in
    let e3 : a / 2 ^ 16 % 256 / 2 ^ 2 % 2 ≡ x / 2 ^ 21 % 2 = omega arith in
    let e4 : a / 2 ^ 16 % 256 / 2 ^ 1 % 2 ≡ x / 2 ^ 20 % 2 = omega arith in
    let e5 : a / 2 ^ 16 % 256 / 2 ^ 0 % 2 ≡ x / 2 ^ 19 % 2 = omega arith in
    λ i. e0 i ∷ e1 i ∷ e2 i ∷ e3 i ∷ e4 i ∷ e5 i ∷ []

-- group 3 of E
group_3 : (x a : ℕ) → x < 2 ^ 32 → a ≡ x % 2 ^ 31 * 2 ^ 1 + x / 2 ^ 31 → six_of a 1 ≡ take 6 (drop 18 (pick expansion (bits_of 32 x)))
unfolding bits_of pick
group_3 x a h is =
    let e0 : a / 2 ^ 16 % 256 / 2 ^ 5 % 2 ≡ x / 2 ^ 20 % 2 = omega arith in
    let e1 : a / 2 ^ 16 % 256 / 2 ^ 4 % 2 ≡ x / 2 ^ 19 % 2 = omega arith in
    let e2 : a / 2 ^ 16 % 256 / 2 ^ 3 % 2 ≡ x / 2 ^ 18 % 2 = omega arith in
    let e3 : a / 2 ^ 16 % 256 / 2 ^ 2 % 2 ≡ x / 2 ^ 17 % 2 = omega arith in
    let e4 : a / 2 ^ 16 % 256 / 2 ^ 1 % 2 ≡ x / 2 ^ 16 % 2 = omega arith in
    let e5 : a / 2 ^ 16 % 256 / 2 ^ 0 % 2 ≡ x / 2 ^ 15 % 2 = omega arith in
    λ i. e0 i ∷ e1 i ∷ e2 i ∷ e3 i ∷ e4 i ∷ e5 i ∷ []

-- group 4 of E
group_4 : (x a : ℕ) → x < 2 ^ 32 → a ≡ x % 8 * 2 ^ 29 + x / 8 → six_of a 2 ≡ take 6 (drop 24 (pick expansion (bits_of 32 x)))
unfolding bits_of pick
group_4 x a h is =
    let e0 : a / 2 ^ 8 % 256 / 2 ^ 5 % 2 ≡ x / 2 ^ 16 % 2 = omega arith in
    let e1 : a / 2 ^ 8 % 256 / 2 ^ 4 % 2 ≡ x / 2 ^ 15 % 2 = omega arith in
    let e2 : a / 2 ^ 8 % 256 / 2 ^ 3 % 2 ≡ x / 2 ^ 14 % 2 = omega arith in
    let e3 : a / 2 ^ 8 % 256 / 2 ^ 2 % 2 ≡ x / 2 ^ 13 % 2 = omega arith in
    let e4 : a / 2 ^ 8 % 256 / 2 ^ 1 % 2 ≡ x / 2 ^ 12 % 2 = omega arith in
    let e5 : a / 2 ^ 8 % 256 / 2 ^ 0 % 2 ≡ x / 2 ^ 11 % 2 = omega arith in
    λ i. e0 i ∷ e1 i ∷ e2 i ∷ e3 i ∷ e4 i ∷ e5 i ∷ []

-- group 5 of E
group_5 : (x a : ℕ) → x < 2 ^ 32 → a ≡ x % 2 ^ 31 * 2 ^ 1 + x / 2 ^ 31 → six_of a 2 ≡ take 6 (drop 30 (pick expansion (bits_of 32 x)))
unfolding bits_of pick
group_5 x a h is =
    let e0 : a / 2 ^ 8 % 256 / 2 ^ 5 % 2 ≡ x / 2 ^ 12 % 2 = omega arith in
    let e1 : a / 2 ^ 8 % 256 / 2 ^ 4 % 2 ≡ x / 2 ^ 11 % 2 = omega arith in
    let e2 : a / 2 ^ 8 % 256 / 2 ^ 3 % 2 ≡ x / 2 ^ 10 % 2 = omega arith in
    let e3 : a / 2 ^ 8 % 256 / 2 ^ 2 % 2 ≡ x / 2 ^ 9 % 2 = omega arith in
    let e4 : a / 2 ^ 8 % 256 / 2 ^ 1 % 2 ≡ x / 2 ^ 8 % 2 = omega arith in
    let e5 : a / 2 ^ 8 % 256 / 2 ^ 0 % 2 ≡ x / 2 ^ 7 % 2 = omega arith in
    λ i. e0 i ∷ e1 i ∷ e2 i ∷ e3 i ∷ e4 i ∷ e5 i ∷ []

-- group 6 of E
group_6 : (x a : ℕ) → x < 2 ^ 32 → a ≡ x % 8 * 2 ^ 29 + x / 8 → six_of a 3 ≡ take 6 (drop 36 (pick expansion (bits_of 32 x)))
unfolding bits_of pick
group_6 x a h is =
    let e0 : a % 256 / 2 ^ 5 % 2 ≡ x / 2 ^ 8 % 2 = omega arith in
    let e1 : a % 256 / 2 ^ 4 % 2 ≡ x / 2 ^ 7 % 2 = omega arith in
    let e2 : a % 256 / 2 ^ 3 % 2 ≡ x / 2 ^ 6 % 2 = omega arith in
    let e3 : a % 256 / 2 ^ 2 % 2 ≡ x / 2 ^ 5 % 2 = omega arith in
    let e4 : a % 256 / 2 ^ 1 % 2 ≡ x / 2 ^ 4 % 2 = omega arith in
    let e5 : a % 256 / 2 ^ 0 % 2 ≡ x / 2 ^ 3 % 2 = omega arith in
    λ i. e0 i ∷ e1 i ∷ e2 i ∷ e3 i ∷ e4 i ∷ e5 i ∷ []

-- group 7 of E
group_7 : (x a : ℕ) → x < 2 ^ 32 → a ≡ x % 2 ^ 31 * 2 ^ 1 + x / 2 ^ 31 → six_of a 3 ≡ take 6 (drop 42 (pick expansion (bits_of 32 x)))
unfolding bits_of pick
group_7 x a h is =
    let e0 : a % 256 / 2 ^ 5 % 2 ≡ x / 2 ^ 4 % 2 = omega arith in
    let e1 : a % 256 / 2 ^ 4 % 2 ≡ x / 2 ^ 3 % 2 = omega arith in
    let e2 : a % 256 / 2 ^ 3 % 2 ≡ x / 2 ^ 2 % 2 = omega arith in
    let e3 : a % 256 / 2 ^ 2 % 2 ≡ x / 2 ^ 1 % 2 = omega arith in
    let e4 : a % 256 / 2 ^ 1 % 2 ≡ x / 2 ^ 0 % 2 = omega arith in
    let e5 : a % 256 / 2 ^ 0 % 2 ≡ x / 2 ^ 31 % 2 = omega arith in
    λ i. e0 i ∷ e1 i ∷ e2 i ∷ e3 i ∷ e4 i ∷ e5 i ∷ []

substitute-length : (box six : List ℕ) → length (substitute box six) ≡ 4
unfolding substitute
substitute-length box six = length-bits_of 4 _

substitute-bits : (box six : List ℕ) → AreBits (substitute box six)
unfolding substitute
substitute-bits box six = bits_bits_of 4 _

-- a sum of eight, by pairs
pub tree : (a b c d e f g h : ℕ) → bit_xor (bit_xor (bit_xor a b) (bit_xor c d)) (bit_xor (bit_xor e f) (bit_xor g h))
    ≡ bit_xor a (bit_xor b (bit_xor c (bit_xor d (bit_xor e (bit_xor f (bit_xor g h))))))
tree a b c d e f g h =
    let u : ℕ = bit_xor (bit_xor e f) (bit_xor g h) in
    xor_assoc (bit_xor a b) (bit_xor c d) u
    ∙ xor_assoc a b (bit_xor (bit_xor c d) u)
    ∙ ap (λ (x : ℕ). bit_xor a (bit_xor b x)) (xor_assoc c d u ∙ ap (λ (x : ℕ). bit_xor c (bit_xor d x)) (xor_assoc e f (bit_xor g h)))

-- the word of four bits at place j of eight
abbrev pub part : ℕ → List ℕ → ℕ
part j s = picked_number permutation (replicate (4 * j) 0 ++ (s ++ replicate (28 - 4 * j) 0))

-- the sum of the eight parts
pub parts_sum : (s1 s2 s3 s4 s5 s6 s7 s8 : List ℕ) → length s1 ≡ 4 → length s2 ≡ 4 → length s3 ≡ 4 → length s4 ≡ 4 → length s5 ≡ 4 → length s6 ≡ 4 → length s7 ≡ 4 → length s8 ≡ 4
    → AreBits s1 → AreBits s2 → AreBits s3 → AreBits s4 → AreBits s5 → AreBits s6 → AreBits s7 → AreBits s8
    → picked_number permutation (s1 ++ (s2 ++ (s3 ++ (s4 ++ (s5 ++ (s6 ++ (s7 ++ s8)))))))
    ≡ bit_xor (part 0 s1) (bit_xor (part 1 s2) (bit_xor (part 2 s3) (bit_xor (part 3 s4) (bit_xor (part 4 s5) (bit_xor (part 5 s6) (bit_xor (part 6 s7) (part 7 s8)))))))
parts_sum s1 s2 s3 s4 s5 s6 s7 s8 l1 l2 l3 l4 l5 l6 l7 l8 b1 b2 b3 b4 b5 b6 b7 b8 =
    let r7 : List ℕ = s8 in
    let m7 : length r7 ≡ 4 = l8 in
    let r6 : List ℕ = s7 ++ r7 in
    let m6 : length r6 ≡ 8 = length-append s7 r7 ∙ omega (arith, l7, m7) in
    let c6 : AreBits r6 = bits_append s7 r7 b7 b8 in
    let r5 : List ℕ = s6 ++ r6 in
    let m5 : length r5 ≡ 12 = length-append s6 r6 ∙ omega (arith, l6, m6) in
    let c5 : AreBits r5 = bits_append s6 r6 b6 c6 in
    let r4 : List ℕ = s5 ++ r5 in
    let m4 : length r4 ≡ 16 = length-append s5 r5 ∙ omega (arith, l5, m5) in
    let c4 : AreBits r4 = bits_append s5 r5 b5 c5 in
    let r3 : List ℕ = s4 ++ r4 in
    let m3 : length r3 ≡ 20 = length-append s4 r4 ∙ omega (arith, l4, m4) in
    let c3 : AreBits r3 = bits_append s4 r4 b4 c4 in
    let r2 : List ℕ = s3 ++ r3 in
    let m2 : length r2 ≡ 24 = length-append s3 r3 ∙ omega (arith, l3, m3) in
    let c2 : AreBits r2 = bits_append s3 r3 b3 c3 in
    let r1 : List ℕ = s2 ++ r2 in
    let m1 : length r1 ≡ 28 = length-append s2 r2 ∙ omega (arith, l2, m2) in
    let c1 : AreBits r1 = bits_append s2 r2 b2 c2 in
    let t0 = part_step permutation 0 4 28 s1 r1 l1 m1 b1 c1 in
    let t1 = part_step permutation 4 4 24 s2 r2 l2 m2 b2 c2 in
    let t2 = part_step permutation 8 4 20 s3 r3 l3 m3 b3 c3 in
    let t3 = part_step permutation 12 4 16 s4 r4 l4 m4 b4 c4 in
    let t4 = part_step permutation 16 4 12 s5 r5 l5 m5 b5 c5 in
    let t5 = part_step permutation 20 4 8 s6 r6 l6 m6 b6 c6 in
    let t6 = part_step permutation 24 4 4 s7 r7 l7 m7 b7 b8 in
    let t7 : picked_number permutation (replicate 28 0 ++ s8) ≡ part 7 s8 = ap (λ (x : List ℕ). picked_number permutation (replicate 28 0 ++ x)) (sym (append-nil s8)) in
    t0 ∙ ap (bit_xor (part 0 s1)) (t1 ∙ ap (bit_xor (part 1 s2)) (t2 ∙ ap (bit_xor (part 2 s3)) (t3 ∙ ap (bit_xor (part 3 s4)) (t4 ∙ ap (bit_xor (part 4 s5)) (t5 ∙ ap (bit_xor (part 5 s6)) (t6 ∙ ap (bit_xor (part 6 s7)) t7))))))

-- an entry of a joined table, at six bits of a sum
at_entry : (box t : List ℕ) (j u x y : ℕ) (e k : List ℕ) → t ≡ map (joined box j) (range_with_len 0 64) → u ≡ bit_xor x y → bits_of 6 x ≡ e → bits_of 6 y ≡ k
    → get_or t (u % 64) 0 ≡ part j (substitute box (xor_each e k))
unfolding joined
at_entry box t j u x y e k is eu ex ey =
    let small : u % 64 < 64 = omega arith in
    entry (joined box j) t 64 is (u % 64) small
    ∙ ap (λ (z : List ℕ). part j (substitute box z)) (ap (λ (z : ℕ). bits_of 6 (z % 64)) eu ∙ six_of_xor x y ∙ ap₂ xor_each ex ey)

-- the eight look-ups
pub function_is : (half even odd a b : ℕ) (p q : List ℕ) → half < 2 ^ 32 → a ≡ rotate_right w32 half 3 → b ≡ rotate_left w32 half 1
    → p ≡ to_be_bytes w32 (bit_xor a even) → q ≡ to_be_bytes w32 (bit_xor b odd)
    → bits_of 32 (bit_xor
    (bit_xor (bit_xor (get_or SP1 (get_or p 0 0 % 64) 0) (get_or SP2 (get_or q 0 0 % 64) 0)) (bit_xor (get_or SP3 (get_or p 1 0 % 64) 0) (get_or SP4 (get_or q 1 0 % 64) 0)))
    (bit_xor (bit_xor (get_or SP5 (get_or p 2 0 % 64) 0) (get_or SP6 (get_or q 2 0 % 64) 0)) (bit_xor (get_or SP7 (get_or p 3 0 % 64) 0) (get_or SP8 (get_or q 3 0 % 64) 0))))
    ≡ cipher_function (bits_of 32 half) (key_of even odd)
unfolding cipher_function substitute_all bits_of pick xor_each
function_is half even odd a b p q h ea eb ep eq =
    let wa = ea ∙ right_three half h in
    let wb = eb ∙ left_one half h in
    let e = pick expansion (bits_of 32 half) in
    let six0 = take 6 (drop 0 e) in
    let s1 = substitute s_box_1 (xor_each six0 (six_of even 0)) in
    let v1 : get_or SP1 (get_or p 0 0 % 64) 0 ≡ part 0 s1 =
    at_entry s_box_1 SP1 0 (get_or p 0 0) (a / 2 ^ 24 % 256) (even / 2 ^ 24 % 256) six0 (six_of even 0) sp1_is
    (ap (λ (z : List ℕ). get_or z 0 0) ep ∙ octet_of_xor a even 24) (group_0 half a h wa) refl in
    let l1 : length s1 ≡ 4 = substitute-length s_box_1 (xor_each six0 (six_of even 0)) in
    let b1 : AreBits s1 = substitute-bits s_box_1 (xor_each six0 (six_of even 0)) in
    let six1 = take 6 (drop 6 e) in
    let s2 = substitute s_box_2 (xor_each six1 (six_of odd 0)) in
    let v2 : get_or SP2 (get_or q 0 0 % 64) 0 ≡ part 1 s2 =
    at_entry s_box_2 SP2 1 (get_or q 0 0) (b / 2 ^ 24 % 256) (odd / 2 ^ 24 % 256) six1 (six_of odd 0) sp2_is
    (ap (λ (z : List ℕ). get_or z 0 0) eq ∙ octet_of_xor b odd 24) (group_1 half b h wb) refl in
    let l2 : length s2 ≡ 4 = substitute-length s_box_2 (xor_each six1 (six_of odd 0)) in
    let b2 : AreBits s2 = substitute-bits s_box_2 (xor_each six1 (six_of odd 0)) in
    let six2 = take 6 (drop 12 e) in
    let s3 = substitute s_box_3 (xor_each six2 (six_of even 1)) in
    let v3 : get_or SP3 (get_or p 1 0 % 64) 0 ≡ part 2 s3 =
    at_entry s_box_3 SP3 2 (get_or p 1 0) (a / 2 ^ 16 % 256) (even / 2 ^ 16 % 256) six2 (six_of even 1) sp3_is
    (ap (λ (z : List ℕ). get_or z 1 0) ep ∙ octet_of_xor a even 16) (group_2 half a h wa) refl in
    let l3 : length s3 ≡ 4 = substitute-length s_box_3 (xor_each six2 (six_of even 1)) in
    let b3 : AreBits s3 = substitute-bits s_box_3 (xor_each six2 (six_of even 1)) in
    let six3 = take 6 (drop 18 e) in
    let s4 = substitute s_box_4 (xor_each six3 (six_of odd 1)) in
    let v4 : get_or SP4 (get_or q 1 0 % 64) 0 ≡ part 3 s4 =
    at_entry s_box_4 SP4 3 (get_or q 1 0) (b / 2 ^ 16 % 256) (odd / 2 ^ 16 % 256) six3 (six_of odd 1) sp4_is
    (ap (λ (z : List ℕ). get_or z 1 0) eq ∙ octet_of_xor b odd 16) (group_3 half b h wb) refl in
    let l4 : length s4 ≡ 4 = substitute-length s_box_4 (xor_each six3 (six_of odd 1)) in
    let b4 : AreBits s4 = substitute-bits s_box_4 (xor_each six3 (six_of odd 1)) in
    let six4 = take 6 (drop 24 e) in
    let s5 = substitute s_box_5 (xor_each six4 (six_of even 2)) in
    let v5 : get_or SP5 (get_or p 2 0 % 64) 0 ≡ part 4 s5 =
    at_entry s_box_5 SP5 4 (get_or p 2 0) (a / 2 ^ 8 % 256) (even / 2 ^ 8 % 256) six4 (six_of even 2) sp5_is
    (ap (λ (z : List ℕ). get_or z 2 0) ep ∙ octet_of_xor a even 8) (group_4 half a h wa) refl in
    let l5 : length s5 ≡ 4 = substitute-length s_box_5 (xor_each six4 (six_of even 2)) in
    let b5 : AreBits s5 = substitute-bits s_box_5 (xor_each six4 (six_of even 2)) in
    let six5 = take 6 (drop 30 e) in
    let s6 = substitute s_box_6 (xor_each six5 (six_of odd 2)) in
    let v6 : get_or SP6 (get_or q 2 0 % 64) 0 ≡ part 5 s6 =
    at_entry s_box_6 SP6 5 (get_or q 2 0) (b / 2 ^ 8 % 256) (odd / 2 ^ 8 % 256) six5 (six_of odd 2) sp6_is
    (ap (λ (z : List ℕ). get_or z 2 0) eq ∙ octet_of_xor b odd 8) (group_5 half b h wb) refl in
    let l6 : length s6 ≡ 4 = substitute-length s_box_6 (xor_each six5 (six_of odd 2)) in
    let b6 : AreBits s6 = substitute-bits s_box_6 (xor_each six5 (six_of odd 2)) in
    let six6 = take 6 (drop 36 e) in
    let s7 = substitute s_box_7 (xor_each six6 (six_of even 3)) in
    let v7 : get_or SP7 (get_or p 3 0 % 64) 0 ≡ part 6 s7 =
    at_entry s_box_7 SP7 6 (get_or p 3 0) (a % 256) (even % 256) six6 (six_of even 3) sp7_is
    (ap (λ (z : List ℕ). get_or z 3 0) ep ∙ xor_mod a even 8) (group_6 half a h wa) refl in
    let l7 : length s7 ≡ 4 = substitute-length s_box_7 (xor_each six6 (six_of even 3)) in
    let b7 : AreBits s7 = substitute-bits s_box_7 (xor_each six6 (six_of even 3)) in
    let six7 = take 6 (drop 42 e) in
    let s8 = substitute s_box_8 (xor_each six7 (six_of odd 3)) in
    let v8 : get_or SP8 (get_or q 3 0 % 64) 0 ≡ part 7 s8 =
    at_entry s_box_8 SP8 7 (get_or q 3 0) (b % 256) (odd % 256) six7 (six_of odd 3) sp8_is
    (ap (λ (z : List ℕ). get_or z 3 0) eq ∙ xor_mod b odd 8) (group_7 half b h wb) refl in
    let l8 : length s8 ≡ 4 = substitute-length s_box_8 (xor_each six7 (six_of odd 3)) in
    let b8 : AreBits s8 = substitute-bits s_box_8 (xor_each six7 (six_of odd 3)) in
    let whole : List ℕ = s1 ++ (s2 ++ (s3 ++ (s4 ++ (s5 ++ (s6 ++ (s7 ++ s8)))))) in
    let all : List ℕ = pick permutation whole in
    let sum = parts_sum s1 s2 s3 s4 s5 s6 s7 s8 l1 l2 l3 l4 l5 l6 l7 l8 b1 b2 b3 b4 b5 b6 b7 b8 in
    let bits : AreBits whole = bits_append s1 _ b1 (bits_append s2 _ b2 (bits_append s3 _ b3 (bits_append s4 _ b4 (bits_append s5 _ b5 (bits_append s6 _ b6 (bits_append s7 s8 b7 b8)))))) in
    ap (bits_of 32)
    ((λ i. bit_xor (bit_xor (bit_xor (v1 i) (v2 i)) (bit_xor (v3 i) (v4 i))) (bit_xor (bit_xor (v5 i) (v6 i)) (bit_xor (v7 i) (v8 i))))
    ∙ tree (part 0 s1) (part 1 s2) (part 2 s3) (part 3 s4) (part 4 s5) (part 5 s6) (part 6 s7) (part 7 s8)
    ∙ sym sum)
    ∙ bits_of_number 32 all (length-pick permutation whole) (bits_pick permutation whole bits)
    ∙ ap (λ (x : List ℕ). pick permutation (s1 ++ (s2 ++ (s3 ++ (s4 ++ (s5 ++ (s6 ++ (s7 ++ x)))))))) (sym (append-nil s8))
