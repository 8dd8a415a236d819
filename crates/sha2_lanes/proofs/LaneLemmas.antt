-- Lanes of vectors, and what holds of each of four lanes, eight words or sixteen.
use Rattle.std.proofs.Common.{◌≡◌, ℕ, zero, suc, ◌<◌, ◌+◌, ◌-◌, ◌*◌, ◌/◌, ◌%◌, ◌^◌, List, [], ◌∷◌, length, slice_index, slice_index_or, bit_or, arith, refl, sym, ap, ◌∙◌, subst, inl, inr}
use Rattle.std.proofs.lemmas.Bool.{cases_lt}
use Rattle.std.proofs.lemmas.Simd.{Each1-get_or, length-zip2}
use Rattle.std.specs.Int.{w32, rotate_right}
use Rattle.std.specs.Simd.Lanes.{Each1, zip2}
use mir.Val.{Fits}
use Rattle.sha2_lanes.specs.Lanes.{lane}

-- what holds of 0, and of the number after each one below n, holds of each below n + 1
below_next : (n : ℕ) (P : ℕ → Type 0) → P 0 → ((k : ℕ) → k < n → P (suc k)) → (k : ℕ) → k < suc n → P k
below_next n P first later zero h = first
below_next n P first later (suc k) h = later k (omega arith)

below_none : (P : ℕ → Type 0) (k : ℕ) → k < 0 → P k
below_none P k h = absurd (omega arith)

-- what holds of 0 to 3
pub below_four : (P : ℕ → Type 0) → P 0 → P 1 → P 2 → P 3 → (j : ℕ) → j < 4 → P j
below_four P a b c d =
    below_next 3 P a (below_next 2 (λ i. P (suc i)) b (below_next 1 (λ i. P (suc (suc i))) c
    (below_next 0 (λ i. P (suc (suc (suc i)))) d (below_none (λ i. P (suc (suc (suc (suc i)))))))))

-- an element of two lists that are joined one by one
zip_at : (f : ℕ → ℕ → ℕ) (a b : List ℕ) → length b ≡ length a → (j : ℕ) → j < length a
    → slice_index (zip2 f a b) j ≡ f (slice_index a j) (slice_index b j)
zip_at f [] b same j h = absurd (omega arith)
zip_at f (x ∷ a) [] same j h = absurd (omega arith)
zip_at f (x ∷ a) (y ∷ b) same zero h = refl
zip_at f (x ∷ a) (y ∷ b) same (suc j) h = zip_at f a b (omega arith) j (omega arith)

-- the vector with n in each lane
abbrev pub splat : ℕ → List ℕ
splat n = n ∷ n ∷ n ∷ n ∷ []

pub splat_at : (n j : ℕ) → j < 4 → slice_index (splat n) j ≡ n
splat_at n = below_four _ refl refl refl refl

-- f of each lane and n
each_at : (f : ℕ → ℕ → ℕ) (n : ℕ) (a : List ℕ) → length a ≡ 4 → (j : ℕ) → j < 4
    → slice_index (zip2 f a (splat n)) j ≡ f (slice_index a j) n
each_at f n a four j lt = zip_at f a (splat n) (sym four) j (omega arith) ∙ ap (f (slice_index a j)) (splat_at n j lt)

-- a shift of each lane
pub shifts_each : (k : ℕ) → k < 32 → (a : List ℕ) → length a ≡ 4 → (j : ℕ) → j < 4
    → slice_index (zip2 (λ x n. x / 2 ^ n) a (splat k)) j ≡ slice_index a j / 2 ^ k
shifts_each k high a four j lt = each_at (λ x n. x / 2 ^ n) k a four j lt

-- shifts of each lane to the right by k and to the left by the rest, joined by or, rotate it
pub shifts_rotate : (k : ℕ) → 0 < k → k < 32 → (a : List ℕ) → length a ≡ 4 → (j : ℕ) → j < 4
    → slice_index (zip2 bit_or (zip2 (λ x n. x / 2 ^ n) a (splat k)) (zip2 (λ x n. x * 2 ^ n % 2 ^ 32) a (splat (32 - k)))) j
    ≡ rotate_right w32 (slice_index a j) k
shifts_rotate k low high a four j lt =
    let right = length-zip2 (λ x n. x / 2 ^ n) a (splat k) four in
    let left = length-zip2 (λ x n. x * 2 ^ n % 2 ^ 32) a (splat (32 - k)) four in
    let of_k : k % 32 ≡ k = omega arith in
    let of_rest : (32 - k) % 32 ≡ 32 - k = omega arith in
    rw (
      zip_at bit_or _ (zip2 (λ x n. x * 2 ^ n % 2 ^ 32) a (splat (32 - k))) (left ∙ sym right) j (rw right (omega arith)),
      each_at (λ x n. x / 2 ^ n) k a four j lt,
      each_at (λ x n. x * 2 ^ n % 2 ^ 32) (32 - k) a four j lt,
      of_k,
      of_rest,
    )
    refl

-- word k of a lane is the lane of vector k
pub slice_index-lane : (x : List (List ℕ)) (j k : ℕ) → slice_index (lane j x) k ≡ slice_index (slice_index_or x k []) j
slice_index-lane [] j k = refl
slice_index-lane (v ∷ x) j zero = refl
slice_index-lane (v ∷ x) j (suc k) = slice_index-lane x j k

pub length-lane : (x : List (List ℕ)) (j : ℕ) → length (lane j x) ≡ length x
length-lane [] j = refl
length-lane (v ∷ x) j = ap suc (length-lane x j)

-- the lanes of a vector are words
pub lane_lt : (x : List ℕ) (j : ℕ) → (length x ≡ 4) × Each1 (Fits w32) x → j < 4 → slice_index x j < 2 ^ 32
lane_lt x j (long, each) lt = (Each1-get_or (Fits w32) x j 0 (omega arith) each).fits

-- what holds of 0 to 7
pub below_eight : (P : ℕ → Type 0) → P 0 → P 1 → P 2 → P 3 → P 4 → P 5 → P 6 → P 7 → (k : ℕ) → k < 8 → P k
below_eight P a0 a1 a2 a3 b0 b1 b2 b3 =
    below_next 7 P a0 (below_next 6 (λ i. P (suc i)) a1 (below_next 5 (λ i. P (suc (suc i))) a2 (below_next 4 (λ i. P (suc (suc (suc i)))) a3
    (below_four (λ i. P (suc (suc (suc (suc i))))) b0 b1 b2 b3))))

-- what holds of each below 8, and of 8 to 15
pub below_sixteen : (P : ℕ → Type 0) → ((k : ℕ) → k < 8 → P k)
    → P 8 → P 9 → P 10 → P 11 → P 12 → P 13 → P 14 → P 15 → (k : ℕ) → k < 16 → P k
below_sixteen P front a0 a1 a2 a3 b0 b1 b2 b3 k h = elim (cases_lt k 8) [
  | inl low ↦ front k low
  | inr high ↦
      let place : 8 + (k - 8) ≡ k = omega arith in
      subst P place (below_eight (λ i. P (8 + i)) a0 a1 a2 a3 b0 b1 b2 b3 (k - 8) (omega arith))
]
