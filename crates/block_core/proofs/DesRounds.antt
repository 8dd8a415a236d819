-- The rounds of DES on words, and the round keys packed.
use Rattle.std.proofs.Common.{◌≡◌, ◌∙◌, sym, ap, ap₂, ℕ, zero, suc, Bool, true, false, cond, ◌+◌, ◌-◌, ◌*◌, ◌/◌, ◌%◌, ◌^◌, ◌<◌, List, [], ◌∷◌, ◌++◌, length, get_or, take, drop, refl, arith, map, bit_xor, ◌≢◌, slice_set, length-set, get_or-set_other, get_or-set_same}
use Rattle.std.specs.Int.{w32, to_be_bytes}
use Rattle.std.specs.List.{range_with_len}
use Rattle.std.proofs.lemmas.List.{same_lists, get_or-drop, drop-drop, get_or-reverse, length-reverse, length-take-le, length-take, length-drop, take-append-drop, take_all, get_or_default}
use Rattle.block_core.specs.Bits.{AreBits, bits_of, number_of, cut, xor_each}
use Rattle.block_core.specs.BitsLaws.{bits_take, bits_drop, number_of-lt}
use Rattle.block_core.specs.Des.{cipher_function, ordered, Halves, rounds}
use Rattle.block_core.specs.DesWords.{six_of, key_of, keys_of_words, packed}
use Rattle.block_core.specs.AesWordsLaws.{word_octets}
use Rattle.block_core.proofs.Groups.{cut_at, length-cut, rounds_step}
use Rattle.block_core.proofs.DesParts.{bit_of_xor, bits_of_number}

xor_maps : (f g h : ℕ → ℕ) → ((i : ℕ) → h i ≡ bit_xor (f i) (g i)) → (is : List ℕ) → map h is ≡ xor_each (map f is) (map g is)
unfolding xor_each
xor_maps f g h e [] = refl
xor_maps f g h e (i ∷ is) = ap₂ (λ (x : ℕ) (xs : List ℕ). x ∷ xs) (e i) (xor_maps f g h e is)

-- the bits of a sum
pub bits_xor : (w x y : ℕ) → bits_of w (bit_xor x y) ≡ xor_each (bits_of w x) (bits_of w y)
unfolding bits_of
bits_xor w x y =
    xor_maps (λ i. x / 2 ^ (w - 1 - i) % 2) (λ i. y / 2 ^ (w - 1 - i) % 2) (λ i. bit_xor x y / 2 ^ (w - 1 - i) % 2) (λ i. bit_of_xor x y (w - 1 - i)) (range_with_len 0 w)

-- the round keys of words
pub length-keys_of_words : (n : ℕ) (ws : List ℕ) → length (keys_of_words n ws) ≡ n
unfolding keys_of_words
length-keys_of_words zero ws = refl
length-keys_of_words (suc n) ws = ap suc (length-keys_of_words n (drop 2 ws))

pub words_at : (n : ℕ) (ws : List ℕ) (k : ℕ) → k < n → get_or (keys_of_words n ws) k [] ≡ key_of (get_or ws (2 * k) 0) (get_or ws (2 * k + 1) 0)
unfolding keys_of_words
words_at zero ws k h = absurd (omega arith)
words_at (suc n) ws zero h = refl
words_at (suc n) ws (suc k) h =
    let e : 2 + 2 * k ≡ 2 * suc k = omega arith in
    let f : 2 + (2 * k + 1) ≡ 2 * suc k + 1 = omega arith in
    words_at n (drop 2 ws) k (omega arith)
    ∙ ap₂ key_of (get_or-drop 2 ws (2 * k) 0 ∙ ap (λ (j : ℕ). get_or ws j 0) e) (get_or-drop 2 ws (2 * k + 1) 0 ∙ ap (λ (j : ℕ). get_or ws j 0) f)

pub length-ordered_words : (backwards : Bool) (ws : List ℕ) → length (ordered backwards (keys_of_words 16 ws)) ≡ 16
length-ordered_words true ws = length-reverse (keys_of_words 16 ws) ∙ length-keys_of_words 16 ws
length-ordered_words false ws = length-keys_of_words 16 ws

pub ordered_words_at : (backwards : Bool) (ws : List ℕ) (i : ℕ) → i < 16
    → get_or (ordered backwards (keys_of_words 16 ws)) i [] ≡ key_of (get_or ws (2 * cond backwards (15 - i) i) 0) (get_or ws (2 * cond backwards (15 - i) i + 1) 0)
ordered_words_at true ws i h =
    let l : length (keys_of_words 16 ws) ≡ 16 = length-keys_of_words 16 ws in
    let e : length (keys_of_words 16 ws) - 1 - i ≡ 15 - i = omega (arith, l) in
    get_or-reverse (keys_of_words 16 ws) i [] (omega (arith, l))
    ∙ ap (λ (k : ℕ). get_or (keys_of_words 16 ws) k []) e
    ∙ words_at 16 ws (15 - i) (omega arith)
ordered_words_at false ws i h = words_at 16 ws i h

-- words that pack the bits of each round key
pub keys_packed : (n : ℕ) (ws bits : List ℕ)
    → ((k : ℕ) → k < n → key_of (get_or ws (2 * k) 0) (get_or ws (2 * k + 1) 0) ≡ take 48 (drop (48 * k) bits))
    → keys_of_words n ws ≡ cut 48 n bits
keys_packed n ws bits here =
    same_lists (keys_of_words n ws) (cut 48 n bits) (length-keys_of_words n ws ∙ sym (length-cut 48 n bits)) (λ k d h.
    let lt : k < n = omega (arith, length-keys_of_words n ws) in
    sym (get_or_default (keys_of_words n ws) k [] d h) ∙ words_at n ws k lt ∙ here k lt ∙ sym (cut_at 48 n bits k lt)
    ∙ get_or_default (cut 48 n bits) k [] d (omega (arith, lt, length-cut 48 n bits)))

-- group j of six bits of a round key, and its number
abbrev group : List ℕ → ℕ → List ℕ
group key j = take 6 (drop (6 * j) key)

group_small : (key : List ℕ) (j : ℕ) → AreBits key → number_of (group key j) < 256
group_small key j is =
    number_of-lt (group key j) 8 (bits_take 6 (drop (6 * j) key) (bits_drop (6 * j) key is)) (omega (arith, length-take 6 (drop (6 * j) key)))

group_bits : (key : List ℕ) (j : ℕ) → length key ≡ 48 → j < 8 → AreBits key → bits_of 6 (number_of (group key j)) ≡ group key j
group_bits key j l h is =
    bits_of_number 6 (group key j) (length-take-le 6 (drop (6 * j) key) (omega (arith, l, length-drop (6 * j) key))) (bits_take 6 (drop (6 * j) key) (bits_drop (6 * j) key is))

group_step : (key : List ℕ) (j k : ℕ) (rest : List ℕ) → 6 * j + 6 ≡ k → rest ≡ drop k key → group key j ++ rest ≡ drop (6 * j) key
group_step key j k rest e is =
    ap (λ (t : List ℕ). group key j ++ t) (is ∙ ap (λ (i : ℕ). drop i key) (sym e) ∙ sym (drop-drop 6 (6 * j) key)) ∙ take-append-drop 6 (drop (6 * j) key)

pub key_packed : (key : List ℕ) (even odd : ℕ) → length key ≡ 48 → AreBits key
    → even ≡ packed key 0 → odd ≡ packed key 6
    → key_of even odd ≡ key
key_packed key even odd l is ee eo =
    let be = ap (to_be_bytes w32) ee ∙ word_octets _ _ _ _ (group_small key 0 is) (group_small key 2 is) (group_small key 4 is) (group_small key 6 is) in
    let bo = ap (to_be_bytes w32) eo ∙ word_octets _ _ _ _ (group_small key 1 is) (group_small key 3 is) (group_small key 5 is) (group_small key 7 is) in
    let s0 : six_of even 0 ≡ group key 0 = ap (λ (t : List ℕ). bits_of 6 (get_or t 0 0)) be ∙ group_bits key 0 l (omega arith) is in
    let s2 : six_of even 1 ≡ group key 2 = ap (λ (t : List ℕ). bits_of 6 (get_or t 1 0)) be ∙ group_bits key 2 l (omega arith) is in
    let s4 : six_of even 2 ≡ group key 4 = ap (λ (t : List ℕ). bits_of 6 (get_or t 2 0)) be ∙ group_bits key 4 l (omega arith) is in
    let s6 : six_of even 3 ≡ group key 6 = ap (λ (t : List ℕ). bits_of 6 (get_or t 3 0)) be ∙ group_bits key 6 l (omega arith) is in
    let s1 : six_of odd 0 ≡ group key 1 = ap (λ (t : List ℕ). bits_of 6 (get_or t 0 0)) bo ∙ group_bits key 1 l (omega arith) is in
    let s3 : six_of odd 1 ≡ group key 3 = ap (λ (t : List ℕ). bits_of 6 (get_or t 1 0)) bo ∙ group_bits key 3 l (omega arith) is in
    let s5 : six_of odd 2 ≡ group key 5 = ap (λ (t : List ℕ). bits_of 6 (get_or t 2 0)) bo ∙ group_bits key 5 l (omega arith) is in
    let s7 : six_of odd 3 ≡ group key 7 = ap (λ (t : List ℕ). bits_of 6 (get_or t 3 0)) bo ∙ group_bits key 7 l (omega arith) is in
    let d7 : group key 7 ≡ drop 42 key = take_all 6 (drop 42 key) (omega (arith, l, length-drop 42 key)) in
    let d6 = group_step key 6 42 (group key 7) refl d7 in
    let d5 = group_step key 5 36 (group key 6 ++ group key 7) refl d6 in
    let d4 = group_step key 4 30 _ refl d5 in
    let d3 = group_step key 3 24 _ refl d4 in
    let d2 = group_step key 2 18 _ refl d3 in
    let d1 = group_step key 1 12 _ refl d2 in
    let d0 = group_step key 0 6 _ refl d1 in
    (λ i. s0 i ++ (s1 i ++ (s2 i ++ (s3 i ++ (s4 i ++ (s5 i ++ (s6 i ++ s7 i))))))) ∙ d0

-- a pair of words written: what it is, and the pairs before it
pub pair_kept : (ws : List ℕ) (i k even odd : ℕ) → k < i
    → key_of (get_or (slice_set (slice_set ws (2 * i) even) (2 * i + 1) odd) (2 * k) 0) (get_or (slice_set (slice_set ws (2 * i) even) (2 * i + 1) odd) (2 * k + 1) 0)
    ≡ key_of (get_or ws (2 * k) 0) (get_or ws (2 * k + 1) 0)
pair_kept ws i k even odd h =
    let a : 2 * k ≢ 2 * i = omega arith in
    let b : 2 * k ≢ 2 * i + 1 = omega arith in
    let d : 2 * k + 1 ≢ 2 * i = omega arith in
    let e : 2 * k + 1 ≢ 2 * i + 1 = omega arith in
    ap₂ key_of
    (get_or-set_other (slice_set ws (2 * i) even) (2 * i + 1) (2 * k) odd 0 b ∙ get_or-set_other ws (2 * i) (2 * k) even 0 a)
    (get_or-set_other (slice_set ws (2 * i) even) (2 * i + 1) (2 * k + 1) odd 0 e ∙ get_or-set_other ws (2 * i) (2 * k + 1) even 0 d)

pub pair_set : (ws : List ℕ) (i even odd : ℕ) → 2 * i + 1 < length ws
    → key_of (get_or (slice_set (slice_set ws (2 * i) even) (2 * i + 1) odd) (2 * i) 0) (get_or (slice_set (slice_set ws (2 * i) even) (2 * i + 1) odd) (2 * i + 1) 0)
    ≡ key_of even odd
pair_set ws i even odd h =
    let b : 2 * i ≢ 2 * i + 1 = omega arith in
    let long : 2 * i + 1 < length (slice_set ws (2 * i) even) = omega (arith, h, length-set ws (2 * i) even) in
    ap₂ key_of
    (get_or-set_other (slice_set ws (2 * i) even) (2 * i + 1) (2 * i) odd 0 b ∙ get_or-set_same ws (2 * i) even 0 (omega arith))
    (get_or-set_same (slice_set ws (2 * i) even) (2 * i + 1) odd 0 long)

-- the halves of two words
abbrev pub halves : ℕ → ℕ → Halves
halves x y = record { left = bits_of 32 x; right = bits_of 32 y }

-- a round on words
pub word_round : (backwards : Bool) (ws : List ℕ) (i k left right f : ℕ) → i < 16 → k ≡ cond backwards (15 - i) i
    → bits_of 32 f ≡ cipher_function (bits_of 32 right) (key_of (get_or ws (2 * k) 0) (get_or ws (2 * k + 1) 0))
    → rounds (drop (i + 1) (ordered backwards (keys_of_words 16 ws))) (halves right (bit_xor left f)) ≡ rounds (drop i (ordered backwards (keys_of_words 16 ws))) (halves left right)
word_round backwards ws i k left right f h ek ef =
    let ks : List (List ℕ) = ordered backwards (keys_of_words 16 ws) in
    let key : key_of (get_or ws (2 * k) 0) (get_or ws (2 * k + 1) 0) ≡ get_or ks i [] =
    ap (λ (j : ℕ). key_of (get_or ws (2 * j) 0) (get_or ws (2 * j + 1) 0)) ek ∙ sym (ordered_words_at backwards ws i h) in
    let sum : bits_of 32 (bit_xor left f) ≡ xor_each (bits_of 32 left) (cipher_function (bits_of 32 right) (get_or ks i [])) =
    bits_xor 32 left f ∙ ap (xor_each (bits_of 32 left)) (ef ∙ ap (cipher_function (bits_of 32 right)) key) in
    ap (λ (x : List ℕ). rounds (drop (i + 1) ks) (let g : Halves = record { left = bits_of 32 right; right = x } in g)) sum
    ∙ sym (rounds_step ks i (halves left right) (omega (arith, h, length-ordered_words backwards ws)))
