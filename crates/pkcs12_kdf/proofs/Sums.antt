-- Octet carries and the numbers of texts.
use Rattle.std.proofs.Common.{◌≡◌, ℕ, zero, suc, ◌+◌, ◌-◌, ◌*◌, ◌/◌, ◌%◌, ◌^◌, ◌<◌, ◌≤◌, List, [], ◌∷◌, length, take, drop, get_or, set, map, sym, refl, ap, ◌∙◌, subst, arith, lit<}
use Rattle.std.proofs.lemmas.List.{drop_more, drop-take, drop-drop, drop-set, length-drop, get_or-take}
use Rattle.std.proofs.lemmas.Nat.{div-add-mod', row_fits}
use Rattle.std.proofs.Math.Nat.{mod-eq_of_lt, mul-add-mod_self_right, mul-div-le, mul-le-mul_left}
use Rattle.std.specs.List.{range_with_len}
use Rattle.pkcs12_kdf.specs.Numbers.{number, block_at, numbers}

-- a text of octets denotes a number under 256 to the power of its length
pub number_lt : (xs : List ℕ) → ((k : ℕ) → get_or xs k 0 < 256) → number xs < 256 ^ length xs
number_lt [] h = lit< tt
number_lt (x ∷ xs) h =
    let rest = number_lt xs (λ k. h (suc k)) in
    let x_lt : x < 256 = h 0 in
    let top : x * 256 ^ length xs + 256 ^ length xs ≤ 256 * 256 ^ length xs = row_fits x (256 ^ length xs) 256 (256 ^ length xs) x_lt (omega arith) in
    let power : 256 ^ suc (length xs) ≡ 256 * 256 ^ length xs = grind arith in
    rw power (omega (arith, rest, top))

pub power : (k : ℕ) → 256 ^ suc k ≡ 256 * 256 ^ k
power k = grind arith

-- the number from the i-th octet on
pub number_drop : (xs : List ℕ) (i k : ℕ) → i + 1 + k ≡ length xs → number (drop i xs) ≡ get_or xs i 0 * 256 ^ k + number (drop (i + 1) xs)
number_drop xs i k e =
    let l : i < length xs = omega arith in
    let n : length (drop (i + 1) xs) ≡ k = length-drop (i + 1) xs ∙ omega arith in
    ap number (drop_more xs i 0 l) ∙ ap (λ m. get_or xs i 0 * 256 ^ m + number (drop (i + 1) xs)) n

-- one octet more is added: p is the worth of the octet, o and a what the octets after it denote
pub carry_step : (x y c p n o a : ℕ) → n + c * p ≡ o + a + 1 → ((x + y + c) % 256 * p + n) + (x + y + c) / 256 * (256 * p) ≡ (x * p + o) + (y * p + a) + 1
carry_step x y c p n o a h =
    let s = x + y + c in
    let e : (s / 256 * 256 + s % 256) * p ≡ s * p = ap (λ t. t * p) (div-add-mod' s 256) in
    omega (arith, e, h)

-- the same on texts: b is the text so far, o the text before, a the addend
pub sum_step : (v : ℕ) (b o a : List ℕ) (i c : ℕ) → length b ≡ v → length o ≡ v → length a ≡ v → i < v → take (i + 1) b ≡ take (i + 1) o →
    number (drop (i + 1) b) + c * 256 ^ (v - (i + 1)) ≡ number (drop (i + 1) o) + number (drop (i + 1) a) + 1 →
    number (drop i (set b i ((get_or b i 0 + get_or a i 0 + c) % 256))) + (get_or b i 0 + get_or a i 0 + c) / 256 * 256 ^ (v - i)
    ≡ number (drop i o) + number (drop i a) + 1
sum_step v b o a i c lb lo la lt front h =
    let k = v - (i + 1) in
    let s = get_or b i 0 + get_or a i 0 + c in
    let b_lt : i < length b = omega arith in
    let x : get_or b i 0 ≡ get_or o i 0 = sym (get_or-take (i + 1) b i 0 (omega arith)) ∙ (ap (λ t. get_or t i 0) front ∙ get_or-take (i + 1) o i 0 (omega arith)) in
    let left : number (drop i (set b i (s % 256))) ≡ s % 256 * 256 ^ k + number (drop (i + 1) b) =
    ap number (drop-set b i (s % 256) b_lt) ∙ ap (λ m. s % 256 * 256 ^ m + number (drop (i + 1) b)) (length-drop (i + 1) b ∙ omega arith) in
    let worth : 256 ^ (v - i) ≡ 256 * 256 ^ k = ap (λ m. 256 ^ m) (let m : v - i ≡ suc k = omega arith in m) ∙ power k in
    let step = carry_step (get_or b i 0) (get_or a i 0) c (256 ^ k) (number (drop (i + 1) b)) (number (drop (i + 1) o)) (number (drop (i + 1) a)) h in
    rw (left, worth, number_drop o i k (omega arith), number_drop a i k (omega arith), ← x) step

-- a number under a power and a carry out of it
pub without_carry : (v n c s : ℕ) → n < 256 ^ v → n + c * 256 ^ v ≡ s → n ≡ s % 256 ^ v
without_carry v n c s lt e =
    let t : c * 256 ^ v + n ≡ s = omega (arith, e) in
    sym (mod-eq_of_lt lt) ∙ (sym (mul-add-mod_self_right c (256 ^ v) n) ∙ ap (λ m. m % 256 ^ v) t)

-- the octets fit after one more is written
pub fits_set : (xs : List ℕ) (i v : ℕ) → v < 256 → ((k : ℕ) → get_or xs k 0 < 256) → (k : ℕ) → get_or (set xs i v) k 0 < 256
fits_set [] i v lt h k = h k
fits_set (x ∷ xs) zero v lt h zero = lt
fits_set (x ∷ xs) zero v lt h (suc k) = h (suc k)
fits_set (x ∷ xs) (suc i) v lt h zero = h zero
fits_set (x ∷ xs) (suc i) v lt h (suc k) = fits_set xs i v lt (λ j. h (suc j)) k

-- the i-th block lies in the front that ends with it
pub block_in_front : (v : ℕ) (s t : List ℕ) (i : ℕ) → take (v * i + v) s ≡ take (v * i + v) t → block_at v s i ≡ block_at v t i
block_in_front v s t i e = sym (drop-take (v * i) v s) ∙ (ap (drop (v * i)) e ∙ drop-take (v * i) v t)

-- a block that is counted is whole
pub block_within : (v n k : ℕ) → k < n / v → v * k + v ≤ n
block_within v n k lt =
    let below : k + 1 ≤ n / v = omega (arith, lt) in
    omega (arith, mul-le-mul_left v below, mul-div-le n v)

-- the blocks before another lie in front of it
pub block_before : (v i k : ℕ) → i < k → v * i + v ≤ v * k
block_before v i k lt =
    let below : i + 1 ≤ k = omega (arith, lt) in
    omega (arith, mul-le-mul_left v below)

-- what is equal from one place on is equal from a later one on
pub rest_later : (s t : List ℕ) (m n : ℕ) → m ≤ n → drop m s ≡ drop m t → drop n s ≡ drop n t
rest_later s t m n le e =
    let at : m + (n - m) ≡ n = omega arith in
    subst (λ (k : ℕ). drop k s ≡ drop k t) at (sym (drop-drop (n - m) m s) ∙ (ap (drop (n - m)) e ∙ drop-drop (n - m) m t))

-- two functions that agree on a range
pub map_range_same : (f g : ℕ → ℕ) (a n : ℕ) → ((i : ℕ) → a ≤ i → i < a + n → f i ≡ g i) → map f (range_with_len a n) ≡ map g (range_with_len a n)
map_range_same f g a zero h = refl
map_range_same f g a (suc n) h =
    let one : f a ≡ g a = h a (omega arith) (omega arith) in
    let more = map_range_same f g (a + 1) n (λ i low high. h i (omega (arith, low)) (omega (arith, high))) in
    cc

pub map_map_range : (f g : ℕ → ℕ) (a n : ℕ) → map (λ i. f (g i)) (range_with_len a n) ≡ map f (map g (range_with_len a n))
map_map_range f g a zero = refl
map_map_range f g a (suc n) = ap (λ xs. f (g a) ∷ xs) (map_map_range f g (a + 1) n)

-- the numbers of a text, where each block's number is f of the other text's
pub numbers_same : (v : ℕ) (f : ℕ → ℕ) (t o : List ℕ) → length t ≡ length o → ((i : ℕ) → i < length o / v → number (block_at v t i) ≡ f (number (block_at v o i))) → numbers v t ≡ map f (numbers v o)
numbers_same v f t o len h =
    ap (λ n. map (λ i. number (block_at v t i)) (range_with_len 0 (n / v))) len
    ∙ (map_range_same (λ i. number (block_at v t i)) (λ i. f (number (block_at v o i))) 0 (length o / v) (λ i low high. h i (omega (arith, high)))
    ∙ map_map_range f (λ i. number (block_at v o i)) 0 (length o / v))

pub power_pos : (k : ℕ) → 0 < 256 ^ k
power_pos zero = lit< tt
power_pos (suc k) = rw (power k) (omega (arith, power_pos k))
