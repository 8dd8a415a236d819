-- lemmas only: nothing to believe here
-- Lists of bits: what keeps bits bits, and octets to bits and back.
use Rattle.std.proofs.Common.{lit<, ◌≡◌, ◌∙◌, sym, subst, ◌+◌, ◌-◌, ◌*◌, ◌/◌, ◌%◌, ◌^◌, ◌<◌, ◌≤◌, ap, ap₂, ℕ, zero, suc, true, List, [], ◌∷◌, ◌++◌, refl, get_or, length, take, drop, reverse, arith, ◌==◌, map, bit_xor}
use Rattle.std.proofs.lemmas.Bool.{eqb-true}
use Rattle.std.specs.Int.Bits.{xor_assoc, xor_self, xor_zero_r}
use Rattle.std.proofs.lemmas.Nat.{xor_lt}
use Rattle.std.specs.List.{range_with_len, flat_map}
use Rattle.std.proofs.lemmas.List.{same_lists, get_or_default, take_at, drop_at, length-map, length-append, length-take, length-take-le, length-drop, take-append-drop, reverse-append}
use Rattle.std.proofs.Math.Nat.{mul-le-mul_right, mul_assoc, pow-succ'}
use Rattle.std.proofs.Math.Pow.{pow_mono}
use Rattle.std.proofs.lemmas.List.FromFn.{length-range_with_len}
use Rattle.block_core.specs.TableLaws.{all_below, all_below_at}
use Rattle.block_core.specs.Bits.{pick, xor_each, AreBits, bits_of, number_of, number_from, cut, bits_of_octets, octets_of_bits}

pub xor_twice : (xs ys : List ℕ) → length xs ≡ length ys → xor_each (xor_each xs ys) ys ≡ xs
unfolding xor_each
xor_twice [] ys l = refl
xor_twice (x ∷ xs) [] l = absurd (omega arith)
xor_twice (x ∷ xs) (y ∷ ys) l =
    ap₂ (λ (a : ℕ) (b : List ℕ). a ∷ b)
    (xor_assoc x y y ∙ ap (bit_xor x) (xor_self y) ∙ xor_zero_r x)
    (xor_twice xs ys (omega arith))

pub length-xor_each : (xs ys : List ℕ) → length xs ≡ length ys → length (xor_each xs ys) ≡ length xs
unfolding xor_each
length-xor_each [] ys l = refl
length-xor_each (x ∷ xs) [] l = absurd (omega arith)
length-xor_each (x ∷ xs) (y ∷ ys) l = let h : length (xor_each xs ys) ≡ length xs = length-xor_each xs ys (omega arith) in ap suc h

get_or-xor_each : (xs ys : List ℕ) (i d : ℕ) → i < length xs → i < length ys
    → get_or (xor_each xs ys) i d ≡ bit_xor (get_or xs i d) (get_or ys i d)
unfolding xor_each
get_or-xor_each [] ys i d h k = absurd (omega arith)
get_or-xor_each (x ∷ xs) [] i d h k = absurd (omega arith)
get_or-xor_each (x ∷ xs) (y ∷ ys) zero d h k = refl
get_or-xor_each (x ∷ xs) (y ∷ ys) (suc i) d h k = get_or-xor_each xs ys i d (omega arith) (omega arith)

-- a list that has each octet of the sum is the sum
pub xored : (xs ys zs : List ℕ) → length xs ≡ length ys → length zs ≡ length xs
    → ((i : ℕ) → i < length xs → get_or zs i 0 ≡ bit_xor (get_or xs i 0) (get_or ys i 0)) → zs ≡ xor_each xs ys
xored xs ys zs l m e =
    let n : length (xor_each xs ys) ≡ length xs = length-xor_each xs ys l in
    same_lists zs (xor_each xs ys) (m ∙ sym n) (λ i d h.
    get_or_default zs i d 0 h ∙ e i (omega arith)
    ∙ sym (get_or-xor_each xs ys i 0 (omega arith) (omega arith))
    ∙ get_or_default (xor_each xs ys) i 0 d (omega arith))

pub length-pick : (table bs : List ℕ) → length (pick table bs) ≡ length table
unfolding pick
length-pick table bs = length-map table (λ p. get_or bs (p - 1) 0)

-- backwards twice
pub reverse_twice : (ks : List (List ℕ)) → reverse (reverse ks) ≡ ks
reverse_twice [] = refl
reverse_twice (k ∷ ks) =
    ap reverse (reverse-append (k ∷ []) ks)
    ∙ reverse-append (reverse ks) (k ∷ [])
    ∙ ap (λ (js : List (List ℕ)). k ∷ js) (reverse_twice ks)

-- bits
pub bits_none : AreBits []
bits_none i = lit< tt

pub bits_cons : (x : ℕ) (xs : List ℕ) → x < 2 → AreBits xs → AreBits (x ∷ xs)
bits_cons x xs h t zero = h
bits_cons x xs h t (suc i) = t i

pub bits_map : (f : ℕ → ℕ) → ((p : ℕ) → f p < 2) → (xs : List ℕ) → AreBits (map f xs)
bits_map f h [] = bits_none
bits_map f h (x ∷ xs) = bits_cons (f x) (map f xs) (h x) (bits_map f h xs)

pub bits_append : (xs ys : List ℕ) → AreBits xs → AreBits ys → AreBits (xs ++ ys)
bits_append [] ys h t = t
bits_append (x ∷ xs) ys h t = bits_cons x (xs ++ ys) (h 0) (bits_append xs ys (λ i. h (suc i)) t)

pub bits_take : (n : ℕ) (xs : List ℕ) → AreBits xs → AreBits (take n xs)
bits_take zero xs h = bits_none
bits_take (suc n) [] h = bits_none
bits_take (suc n) (x ∷ xs) h = bits_cons x (take n xs) (h 0) (bits_take n xs (λ i. h (suc i)))

pub bits_drop : (n : ℕ) (xs : List ℕ) → AreBits xs → AreBits (drop n xs)
bits_drop zero xs h = h
bits_drop (suc n) [] h = bits_none
bits_drop (suc n) (x ∷ xs) h = bits_drop n xs (λ i. h (suc i))

pub bits_xor_each : (xs ys : List ℕ) → AreBits xs → AreBits ys → AreBits (xor_each xs ys)
unfolding xor_each
bits_xor_each [] ys h t = bits_none
bits_xor_each (x ∷ xs) [] h t = bits_none
bits_xor_each (x ∷ xs) (y ∷ ys) h t =
    bits_cons (bit_xor x y) (xor_each xs ys) (xor_lt 1 x y (h 0) (t 0)) (bits_xor_each xs ys (λ i. h (suc i)) (λ i. t (suc i)))

pub bits_pick : (table bs : List ℕ) → AreBits bs → AreBits (pick table bs)
unfolding pick
bits_pick table bs h = bits_map (λ p. get_or bs (p - 1) 0) (λ p. h (p - 1)) table

pub bits_bits_of : (w n : ℕ) → AreBits (bits_of w n)
unfolding bits_of
bits_bits_of w n = bits_map (λ i. n / 2 ^ (w - 1 - i) % 2) (λ i. omega arith) (range_with_len 0 w)

pub bits_octets : (os : List ℕ) → AreBits (bits_of_octets os)
unfolding bits_of_octets
bits_octets [] = bits_none
bits_octets (o ∷ os) = bits_append (bits_of 8 o) (flat_map (bits_of 8) os) (bits_bits_of 8 o) (bits_octets os)

-- numbers and their bits
pub number_from-lt : (bs : List ℕ) (n : ℕ) → AreBits bs → number_from n bs < suc n * 2 ^ length bs
unfolding number_from
number_from-lt [] n h = omega arith
number_from-lt (b ∷ bs) n h =
    let p : ℕ = 2 ^ length bs in
    let less : number_from (2 * n + b) bs < suc (2 * n + b) * p = number_from-lt bs (2 * n + b) (λ i. h (suc i)) in
    let one : b < 2 = h 0 in
    let more : suc (2 * n + b) * p ≤ suc (suc (2 * n)) * p = mul-le-mul_right p (omega arith) in
    let twice : suc (suc (2 * n)) ≡ suc n * 2 = omega arith in
    let same : suc (suc (2 * n)) * p ≡ suc n * (2 * p) = ap (λ (k : ℕ). k * p) twice ∙ mul_assoc (suc n) 2 p in
    let next : 2 ^ suc (length bs) ≡ 2 * p = pow-succ' 2 (length bs) in
    let all : number_from (2 * n + b) bs < suc n * (2 * p) = omega (arith, less, more, same) in
    subst (λ (k : ℕ). number_from (2 * n + b) bs < suc n * k) (sym next) all

pub number_of-lt : (bs : List ℕ) (m : ℕ) → AreBits bs → length bs ≤ m → number_of bs < 2 ^ m
unfolding number_of
number_of-lt bs m h l =
    let top : 2 ^ length bs ≤ 2 ^ m = pow_mono l in
    let less : number_from 0 bs < 1 * 2 ^ length bs = number_from-lt bs 0 h in
    omega (arith, top, less)

number_bits_table : all_below (λ a. number_of (bits_of 8 a) == a) 256 ≡ true
unfolding number_of number_from bits_of
number_bits_table = refl

number_bits : (a : ℕ) → a < 256 → number_of (bits_of 8 a) ≡ a
number_bits a h = eqb-true _ _ (all_below_at (λ b. number_of (bits_of 8 b) == b) 256 number_bits_table a h)

eight_bits : (a b c d e f g h : ℕ) → a < 2 → b < 2 → c < 2 → d < 2 → e < 2 → f < 2 → g < 2 → h < 2
    → bits_of 8 (number_of (a ∷ b ∷ c ∷ d ∷ e ∷ f ∷ g ∷ h ∷ [])) ≡ a ∷ b ∷ c ∷ d ∷ e ∷ f ∷ g ∷ h ∷ []
unfolding bits_of number_of number_from
eight_bits a b c d e f g h ha hb hc hd he hf hg hh =
    let n : ℕ = number_of (a ∷ b ∷ c ∷ d ∷ e ∷ f ∷ g ∷ h ∷ []) in
    let is : n ≡ 128 * a + 64 * b + 32 * c + 16 * d + 8 * e + 4 * f + 2 * g + h = omega arith in
    let ea : n / 2 ^ 7 % 2 ≡ a = omega arith in
    let eb : n / 2 ^ 6 % 2 ≡ b = omega arith in
    let ec : n / 2 ^ 5 % 2 ≡ c = omega arith in
    let ed : n / 2 ^ 4 % 2 ≡ d = omega arith in
    let ee : n / 2 ^ 3 % 2 ≡ e = omega arith in
    let ef : n / 2 ^ 2 % 2 ≡ f = omega arith in
    let eg : n / 2 ^ 1 % 2 ≡ g = omega arith in
    let eh : n / 2 ^ 0 % 2 ≡ h = omega arith in
    (λ i. ea i ∷ eb i ∷ ec i ∷ ed i ∷ ee i ∷ ef i ∷ eg i ∷ eh i ∷ [])

bits_number : (bs : List ℕ) → length bs ≡ 8 → AreBits bs → bits_of 8 (number_of bs) ≡ bs
unfolding bits_of number_of number_from
bits_number (a ∷ b ∷ c ∷ d ∷ e ∷ f ∷ g ∷ h ∷ []) l is =
    let ha : a < 2 = is 0 in
    let hb : b < 2 = is 1 in
    let hc : c < 2 = is 2 in
    let hd : d < 2 = is 3 in
    let he : e < 2 = is 4 in
    let hf : f < 2 = is 5 in
    let hg : g < 2 = is 6 in
    let hh : h < 2 = is 7 in
    eight_bits a b c d e f g h ha hb hc hd he hf hg hh
bits_number [] l is = absurd (omega arith)
bits_number (a ∷ []) l is = absurd (omega arith)
bits_number (a ∷ b ∷ []) l is = absurd (omega arith)
bits_number (a ∷ b ∷ c ∷ []) l is = absurd (omega arith)
bits_number (a ∷ b ∷ c ∷ d ∷ []) l is = absurd (omega arith)
bits_number (a ∷ b ∷ c ∷ d ∷ e ∷ []) l is = absurd (omega arith)
bits_number (a ∷ b ∷ c ∷ d ∷ e ∷ f ∷ []) l is = absurd (omega arith)
bits_number (a ∷ b ∷ c ∷ d ∷ e ∷ f ∷ g ∷ []) l is = absurd (omega arith)
bits_number (a ∷ b ∷ c ∷ d ∷ e ∷ f ∷ g ∷ h ∷ i ∷ bs) l is = absurd (omega arith)

-- octets to bits and back
pub length-bits_of : (w n : ℕ) → length (bits_of w n) ≡ w
unfolding bits_of
length-bits_of w n = length-map (range_with_len 0 w) (λ i. n / 2 ^ (w - 1 - i) % 2) ∙ length-range_with_len 0 w

pub length-bits_of_octets : (os : List ℕ) → length (bits_of_octets os) ≡ 8 * length os
unfolding bits_of_octets
length-bits_of_octets [] = refl
length-bits_of_octets (o ∷ os) =
    let rest : length (flat_map (bits_of 8) os) ≡ 8 * length os = length-bits_of_octets os in
    length-append (bits_of 8 o) (flat_map (bits_of 8) os) ∙ omega (arith, length-bits_of 8 o, rest)

pub octets-bits : (os : List ℕ) → ((i : ℕ) → i < length os → get_or os i 0 < 256) → octets_of_bits (length os) (bits_of_octets os) ≡ os
unfolding octets_of_bits bits_of_octets cut
octets-bits [] h = refl
octets-bits (o ∷ os) h =
    let rest : List ℕ = flat_map (bits_of 8) os in
    ap₂ (λ (x : List ℕ) (y : List ℕ). number_of x ∷ map number_of (cut 8 (length os) y))
    (take_at (bits_of 8 o) rest 8 (length-bits_of 8 o)) (drop_at (bits_of 8 o) rest 8 (length-bits_of 8 o))
    ∙ ap₂ (λ (x : ℕ) (xs : List ℕ). x ∷ xs) (number_bits o (h 0 (omega arith))) (octets-bits os (λ i l. h (suc i) (omega arith)))

pub bits-octets : (n : ℕ) (bs : List ℕ) → length bs ≡ 8 * n → AreBits bs → bits_of_octets (octets_of_bits n bs) ≡ bs
unfolding octets_of_bits bits_of_octets cut
bits-octets zero [] l is = refl
bits-octets zero (b ∷ bs) l is = absurd (omega arith)
bits-octets (suc n) bs l is =
    let rest : length (drop 8 bs) ≡ 8 * n = length-drop 8 bs ∙ omega arith in
    ap₂ (λ (x y : List ℕ). x ++ y)
    (bits_number (take 8 bs) (length-take-le 8 bs (omega arith)) (bits_take 8 bs is))
    (bits-octets n (drop 8 bs) rest (bits_drop 8 bs is))
    ∙ take-append-drop 8 bs

pub octets-lt : (n : ℕ) (bs : List ℕ) → AreBits bs → (i : ℕ) → get_or (octets_of_bits n bs) i 0 < 256
unfolding octets_of_bits cut
octets-lt zero bs is i = lit< tt
octets-lt (suc n) bs is zero = number_of-lt (take 8 bs) 8 (bits_take 8 bs is) (omega (arith, length-take 8 bs))
octets-lt (suc n) bs is (suc i) = octets-lt n (drop 8 bs) (bits_drop 8 bs is) i

pub length-octets_of_bits : (n : ℕ) (bs : List ℕ) → length (octets_of_bits n bs) ≡ n
unfolding octets_of_bits cut
length-octets_of_bits zero bs = refl
length-octets_of_bits (suc n) bs = ap suc (length-octets_of_bits n (drop 8 bs))
