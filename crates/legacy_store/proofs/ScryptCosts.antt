-- The costs that scrypt takes within the bound on memory, and what opens by it.
use Rattle.std.proofs.Common.{◌≡◌, ◌∙◌, inl, inr, ℕ, zero, suc, ◌+◌, ◌*◌, ◌^◌, ◌<◌, ◌≤◌, Bool, true, false, List, None, refl, sym, ap, arith, nat_lt, subst}
use Rattle.std.specs.Prelude.{◌==◌, ◌&&◌, ◌||◌, nat_le}
use Rattle.std.proofs.lemmas.Bool.{and_from, and_left, and_parts, cases_Bool, cases_lt, eq-eqb, eqb-true, leb-true, le-leb, lt-ltb, ltb-true, or_cases}
use Rattle.std.proofs.Math.Nat.{mul_assoc, mul-le-mul_right}
use Rattle.std.proofs.Math.Pow.{pow_mono}
use Rattle.scrypt_core.specs.Params.{Lawful}
use Rattle.pkcs5.specs.Opening.{TakesCosts, opened}
use Rattle.pkcs5.specs.OpeningLaws.{opened_none}
use Rattle.pkcs5.specs.Refusals.{RefusesToOpenInPlace}
use Rattle.pkcs5.specs.declared.error.Error.{Error}
use Rattle.pkcs5.specs.declared.error.Error.TheVariants as errors
use Rattle.pkcs5.specs.declared.pbes2.kdf.Kdf.TheVariants.{Scrypt}
use Rattle.pkcs5.specs.declared.pbes2.parameters.Parameters.{Parameters}
use Rattle.pkcs5.specs.declared.pbes2.scrypt_params.ScryptParams.{ScryptParams}
use Rattle.legacy_store.specs.Laws.{ScryptFitsExactly}
use Rattle.legacy_store.specs.Scrypt.{is_power, scrypt_fits, scrypt_memory, scrypt_memory_limit, takes_turns}

or_left : (x y : Bool) → x ≡ true → (x || y) ≡ true
or_left true y h = refl
or_left false y h = absurd cc

or_right : (x y : Bool) → y ≡ true → (x || y) ≡ true
or_right true y h = refl
or_right false y h = h

-- ---- Powers of two

power_in : (k n : ℕ) → is_power k n ≡ true → (j : ℕ) × (1 ≤ j) × (j ≤ k) × (n ≡ 2 ^ j)
unfolding is_power
power_in zero n h = absurd cc
power_in (suc k) n h = elim (or_cases (n == 2 ^ suc k) (is_power k n) h) [
  | inl e ↦ (suc k, omega arith, omega arith, eqb-true n (2 ^ suc k) e)
  | inr e ↦ let r = power_in k n e in (r.0, r.1, omega (arith, r.2), r.3)
]

power_at : (k n j : ℕ) → 1 ≤ j → j ≤ k → n ≡ 2 ^ j → is_power k n ≡ true
unfolding is_power
power_at zero n j low high is = absurd (omega (arith, low, high))
power_at (suc k) n j low high is = elim (cases_lt j (suc k)) [
  | inl less ↦ or_right (n == 2 ^ suc k) (is_power k n) (power_at k n j low (omega (arith, less)) is)
  | inr more ↦ let same : j ≡ suc k = omega (arith, high, more) in or_left (n == 2 ^ suc k) (is_power k n) (eq-eqb n (2 ^ suc k) (is ∙ ap (λ (i : ℕ). 2 ^ i) same))
]

below : (j k : ℕ) → 2 ^ j < 2 ^ suc k → j ≤ k
below j k h = elim (cases_lt k j) [
  | inl more ↦ (let up : suc k ≤ j = omega (arith, more) in let p : 2 ^ suc k ≤ 2 ^ j = pow_mono up in let x : ℕ = 2 ^ suc k in let y : ℕ = 2 ^ j in let a : x ≤ y = p in let b : y < x = h in absurd (omega (arith, a, b)))
  | inr few ↦ few
]

-- ---- Costs

-- 2 to the power j turns, in so much memory
wide : (n r j : ℕ) → 1 ≤ r → j ≤ 19 → n ≡ 2 ^ j → (nat_lt 1 r || nat_lt n 65536) ≡ true → j < 16 * r
wide n r j some few is h = elim (or_cases (nat_lt 1 r) (nat_lt n 65536) h) [
  | inl e ↦ let two : 1 < r = ltb-true 1 r e in omega (arith, two, few)
  | inr e ↦ (let small : n < 65536 = ltb-true n 65536 e in let less : 2 ^ j < 2 ^ 16 = omega (arith, small, is) in let low : j ≤ 15 = below j 15 less in omega (arith, low, some))
]

lawful_in : (n r q j : ℕ) → 1 ≤ r → 1 ≤ q → 128 * (r * n) + 256 * (r * q) ≤ 67108864 → 1 ≤ j → j ≤ 63 → n ≡ 2 ^ j → (nat_lt 1 r || nat_lt n 65536) ≡ true → Lawful j r q
lawful_in n r q j some pieces m low word is h =
    let more : 1 * n ≤ r * n = mul-le-mul_right n some in
    let turns : n < 1048576 = omega (arith, more, m) in
    let less : 2 ^ j < 2 ^ 20 = omega (arith, turns, is) in
    let few : j ≤ 19 = below j 19 less in
    let y : ℕ = 2 ^ j in
    let same : 128 * r * y ≡ 128 * (r * y) = mul_assoc 128 r y in
    let as_n : r * n ≡ r * y = ap (λ (x : ℕ). r * x) is in
    let all : 128 * r * q ≡ 128 * (r * q) = mul_assoc 128 r q in
    record {
      some_turns = low;
      word = word;
      wide = wide n r j some few is h;
      some_blocks = some;
      some_pieces = pieces;
      product = omega (arith, m);
      memory = omega (arith, same, as_n, m);
      pieces = omega (arith, all, m);
    }

-- Costs within the bound are such that scrypt takes them.
pub costs_taken : (s : ScryptParams) → scrypt_fits s ≡ true → TakesCosts (Scrypt s)
unfolding scrypt_fits
costs_taken s h =
    let turns = takes_turns s.cost_parameter s.block_size in
    let a = and_parts (nat_le (scrypt_memory s) scrypt_memory_limit) (nat_lt 0 s.block_size && (nat_lt 0 s.parallelization && turns)) h in
    let b = and_parts (nat_lt 0 s.block_size) (nat_lt 0 s.parallelization && turns) a.1 in
    let c = and_parts (nat_lt 0 s.parallelization) turns b.1 in
    let d = and_parts (is_power 63 s.cost_parameter) (nat_lt 1 s.block_size || nat_lt s.cost_parameter 65536) c.1 in
    let p = power_in 63 s.cost_parameter d.0 in
    let m : scrypt_memory s ≤ scrypt_memory_limit = leb-true (scrypt_memory s) scrypt_memory_limit a.0 in
    (p.0, p.3, lawful_in s.cost_parameter s.block_size s.parallelization p.0 (ltb-true 0 s.block_size b.0) (ltb-true 0 s.parallelization c.0) m p.1 p.2 p.3 d.1)

-- And of those that it takes, those within the bound.
fits_within : (s : ScryptParams) (j : ℕ) → s.cost_parameter ≡ 2 ^ j → Lawful j s.block_size s.parallelization → nat_le (scrypt_memory s) scrypt_memory_limit ≡ true → scrypt_fits s ≡ true
unfolding scrypt_fits
fits_within s j is law m =
    let n = s.cost_parameter in
    let r = s.block_size in
    let wide : (nat_lt 1 r || nat_lt n 65536) ≡ true = elim (cases_lt 1 r) [
      | inl two ↦ or_left (nat_lt 1 r) (nat_lt n 65536) (lt-ltb 1 r two)
      | inr one ↦ (let w : j < 16 * r = law.wide in let low : j ≤ 15 = omega (arith, w, one) in let up : 2 ^ j ≤ 2 ^ 15 = pow_mono low in
          or_right (nat_lt 1 r) (nat_lt n 65536) (lt-ltb n 65536 (omega (arith, up, is))))
    ] in
    let turns = and_from (is_power 63 n) (nat_lt 1 r || nat_lt n 65536) (power_at 63 n j law.some_turns law.word is) wide in
    let c = and_from (nat_lt 0 s.parallelization) (takes_turns n r) (lt-ltb 0 s.parallelization law.some_pieces) turns in
    let b = and_from (nat_lt 0 r) (nat_lt 0 s.parallelization && takes_turns n r) (lt-ltb 0 r law.some_blocks) c in
    and_from (nat_le (scrypt_memory s) scrypt_memory_limit) (nat_lt 0 r && (nat_lt 0 s.parallelization && takes_turns n r)) m b

pub fits_by : (s : ScryptParams) (j r q : ℕ) → 2 ^ j ≡ s.cost_parameter → r ≡ s.block_size → q ≡ s.parallelization → Lawful j r q → nat_le (scrypt_memory s) scrypt_memory_limit ≡ scrypt_fits s
unfolding scrypt_fits
fits_by s j r q n b p law = elim (cases_Bool (nat_le (scrypt_memory s) scrypt_memory_limit)) [
  | inl within ↦ within ∙ sym (fits_within s j (sym n) (subst (λ (x : ℕ). Lawful j x s.parallelization) b (subst (Lawful j r) p law)) within)
  | inr more ↦ more ∙ sym (and_left (nat_le (scrypt_memory s) scrypt_memory_limit) (nat_lt 0 s.block_size && (nat_lt 0 s.parallelization && takes_turns s.cost_parameter s.block_size)) more)
]

pub not_taken : (s : ScryptParams) → (TakesCosts (Scrypt s) → ⊥) → false ≡ scrypt_fits s
not_taken s none = elim (cases_Bool (scrypt_fits s)) [
  | inl h ↦ absurd (none (costs_taken s h))
  | inr h ↦ sym h
]

fits_memory : (s : ScryptParams) → scrypt_fits s ≡ true → scrypt_memory s ≤ scrypt_memory_limit
unfolding scrypt_fits
fits_memory s h =
    let rest = nat_lt 0 s.block_size && (nat_lt 0 s.parallelization && takes_turns s.cost_parameter s.block_size) in
    leb-true (scrypt_memory s) scrypt_memory_limit (and_parts (nat_le (scrypt_memory s) scrypt_memory_limit) rest h).0

pub fits_exactly : ScryptFitsExactly
fits_exactly s = (
  λ h. (costs_taken s h, fits_memory s h),
  λ h. fits_within s h.0.0 h.0.1 h.0.2 (le-leb (scrypt_memory s) scrypt_memory_limit h.1),
)

-- ---- Opening

pub opens_none : (par : Parameters) (q c : List ℕ) (e : Error) → e ≡ errors.DecryptFailed → RefusesToOpenInPlace par q c e → opened par q c ≡ None
opens_none par q c e is r = opened_none par q c (subst (RefusesToOpenInPlace par q c) is r).1
