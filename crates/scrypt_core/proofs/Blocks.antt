-- ROMix: the blocks V written one after the other, and Integerify by the eight lowest octets.
use Rattle.std.proofs.Common.{lit<, ◌≡◌, ◌∙◌, sym, ap, ℕ, zero, suc, inl, inr, ◌+◌, ◌-◌, ◌*◌, ◌%◌, ◌^◌, ◌<◌, ◌≤◌, List, [], ◌∷◌, length, take, drop, get_or, refl, arith}
use Rattle.std.specs.Int.{w64, from_le_bytes}
use Rattle.std.proofs.lemmas.Bool.{cases_lt}
use Rattle.std.proofs.lemmas.Nat.{pow-add, shl_whole}
use Rattle.std.proofs.Math.Nat.{add-mul-mod_self_right, mul-le-mul_left}
use Rattle.std.proofs.lemmas.List.{take-append-le, drop-append-le, take_all, drop_at, length-append, length-drop}
use Rattle.scrypt_core.specs.Salsa.{salsa}
use Rattle.scrypt_core.specs.BlockMix.{mixed, joined, block_mix, block}
use Rattle.scrypt_core.specs.Scrypt.{mixed_times, number}
use Rattle.block_core.specs.Bits.{xor_each}

pub length-joined : (f : ℕ → List ℕ) (w : ℕ) → ((i : ℕ) → length (f i) ≡ w) → (n : ℕ) → length (joined f n) ≡ w * n
unfolding joined
length-joined f w h zero = omega arith
length-joined f w h (suc n) =
    let e : w * suc n ≡ w * n + w = grind arith in
    length-append (joined f n) (f n) ∙ omega (arith, length-joined f w h n, h n, e)

pub joined_at : (f : ℕ → List ℕ) (w : ℕ) → ((i : ℕ) → length (f i) ≡ w) → (n k : ℕ) → k < n → take w (drop (w * k) (joined f n)) ≡ f k
unfolding joined
joined_at f w h zero k lt = absurd (omega arith)
joined_at f w h (suc n) k lt =
    let l = length-joined f w h n in
    elim (cases_lt k n) [
      | inl less ↦
          let step : w * suc k ≡ w * k + w = grind arith in
          let up : suc k ≤ n = omega (arith, less) in
          let top : w * suc k ≤ w * n = mul-le-mul_left w up in
          let room : w * k + w ≤ w * n = omega (arith, step, top) in
          ap (take w) (drop-append-le (w * k) (joined f n) (f n) (omega (arith, l, room)))
          ∙ take-append-le w (drop (w * k) (joined f n)) (f n) (omega (arith, l, room, length-drop (w * k) (joined f n)))
          ∙ joined_at f w h n k less
      | inr more ↦
          let e : n ≡ k = omega arith in
          let m : length (joined f n) ≡ w * k = l ∙ ap (λ (j : ℕ). w * j) e in
          ap (take w) (drop_at (joined f n) (f n) (w * k) m)
          ∙ take_all w (f n) (omega (arith, h n)) ∙ ap f e
    ]

length-salsa : (b : List ℕ) → length (salsa b) ≡ 64
unfolding salsa
length-salsa b = refl

length-mixed : (b : List ℕ) (i : ℕ) → length (mixed b (i + 1)) ≡ 64
unfolding mixed
length-mixed b i =
    let e : i + 1 ≡ suc i = omega arith in
    ap (λ (k : ℕ). length (mixed b k)) e ∙ length-salsa (xor_each (mixed b i) (block i b))

pub length-block_mix : (r : ℕ) (b : List ℕ) → length (block_mix r b) ≡ 128 * r
unfolding block_mix
length-block_mix r b =
    let odd : (i : ℕ) → length (mixed b (2 * i + 2)) ≡ 64 =
    λ i. let e : 2 * i + 2 ≡ 2 * i + 1 + 1 = omega arith in ap (λ (k : ℕ). length (mixed b k)) e ∙ length-mixed b (2 * i + 1) in
    length-append (joined (λ i. mixed b (2 * i + 1)) r) (joined (λ i. mixed b (2 * i + 2)) r)
    ∙ omega (arith, length-joined (λ i. mixed b (2 * i + 1)) 64 (λ i. length-mixed b (2 * i)) r, length-joined (λ i. mixed b (2 * i + 2)) 64 odd r)

pub length-mixed_times : (r : ℕ) (b : List ℕ) → length b ≡ 128 * r → (i : ℕ) → length (mixed_times r i b) ≡ 128 * r
unfolding mixed_times
length-mixed_times r b l zero = l
length-mixed_times r b l (suc i) = length-block_mix r (mixed_times r i b)

-- a power of two of at most 64 bits looks at eight octets alone
above : (a m k : ℕ) → k ≤ 64 → (a + 2 ^ 64 * m) % 2 ^ k ≡ a % 2 ^ k
above a m k h =
    let e : 64 ≡ 64 - k + k = omega arith in
    let p : 2 ^ 64 ≡ 2 ^ (64 - k) * 2 ^ k = ap (λ (j : ℕ). 2 ^ j) e ∙ pow-add 2 (64 - k) k in
    let x : ℕ = 2 ^ (64 - k) in
    let y : ℕ = 2 ^ k in
    let q : x * y * m ≡ m * x * y = grind arith in
    ap (λ (t : ℕ). (a + t) % y) (ap (λ (t : ℕ). t * m) p ∙ q) ∙ add-mul-mod_self_right a (m * x) y

pub number_low : (xs : List ℕ) (k : ℕ) → k ≤ 64 → 8 ≤ length xs
    → from_le_bytes w64 (get_or xs 0 0 ∷ get_or xs 1 0 ∷ get_or xs 2 0 ∷ get_or xs 3 0 ∷ get_or xs 4 0 ∷ get_or xs 5 0 ∷ get_or xs 6 0 ∷ get_or xs 7 0 ∷ []) % 2 ^ k
    ≡ number xs % 2 ^ k
unfolding number
number_low [] k h l = absurd (omega arith)
number_low (a ∷ []) k h l = absurd (omega arith)
number_low (a ∷ b ∷ []) k h l = absurd (omega arith)
number_low (a ∷ b ∷ c ∷ []) k h l = absurd (omega arith)
number_low (a ∷ b ∷ c ∷ d ∷ []) k h l = absurd (omega arith)
number_low (a ∷ b ∷ c ∷ d ∷ e ∷ []) k h l = absurd (omega arith)
number_low (a ∷ b ∷ c ∷ d ∷ e ∷ f ∷ []) k h l = absurd (omega arith)
number_low (a ∷ b ∷ c ∷ d ∷ e ∷ f ∷ g ∷ []) k h l = absurd (omega arith)
number_low (a ∷ b ∷ c ∷ d ∷ e ∷ f ∷ g ∷ j ∷ xs) k h l =
    let m : ℕ = number xs in
    let n : ℕ = from_le_bytes w64 (a ∷ b ∷ c ∷ d ∷ e ∷ f ∷ g ∷ j ∷ []) in
    let same : n + 2 ^ 64 * m ≡ a + 256 * (b + 256 * (c + 256 * (d + 256 * (e + 256 * (f + 256 * (g + 256 * (j + 256 * m))))))) = omega arith in
    sym (above n m k h) ∙ ap (λ (t : ℕ). t % 2 ^ k) same

-- a power of two that a word holds
pub power_word : (k : ℕ) → k ≤ 63 → 1 * 2 ^ k % 2 ^ 64 ≡ 2 ^ k
power_word k h = shl_whole 1 1 k 64 (lit< tt) (omega arith) ∙ omega arith
