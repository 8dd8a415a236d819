-- Octets, and the numbers that they denote.
use Rattle.std.proofs.Common.{zero-add, length-append, zero-mul, ◌≡◌, lit<, inl, inr, ℕ, zero, suc, ◌+◌, ◌-◌, ◌*◌, ◌/◌, ◌%◌, ◌^◌, ◌<◌, ◌≤◌, List, [], ◌∷◌, ◌++◌, length, take, drop, get_or, map, sym, refl, ap, ◌∙◌, subst, arith, add-one}
use Rattle.std.proofs.lemmas.List.{length-take-le, length-drop, get_or-take, get_or-drop, append-nil, get_or_past}
use Rattle.std.proofs.lemmas.List.FromFn.{length-map-range_with_len, map-range_with_len_more}
use Rattle.std.proofs.lemmas.Grind.{flat_map-append}
use Rattle.std.proofs.lemmas.Nat.{div-add-mod', div-mul-add}
use Rattle.std.proofs.lemmas.Bool.{cases_lt}
use Rattle.std.proofs.Math.Nat.{mul-add-div_right, mul-add-mod_self_right, mod-eq_of_lt}
use Rattle.std.proofs.Math.Seq.{take-add, take-length}
use Rattle.std.specs.List.{range_with_len, flat_map}
use Rattle.pkcs12_kdf.specs.Derivation.{fill, hashed, answer, answers, inputs_at, next_inputs, turns, derive12, derive12_in}
use Rattle.pkcs12_kdf.specs.Numbers.{number, octets, block_at, numbers}
use Rattle.pkcs12_kdf.proofs.Sums.{number_lt, power, power_pos}

-- what does not fit k octets is dropped
pub octets_low : (k a r : ℕ) → octets k (a * 256 ^ k + r) ≡ octets k r
unfolding octets
octets_low zero a r = refl
octets_low (suc k) a r =
    let w = 256 ^ k in
    let e : a * 256 ^ suc k + r ≡ (a * 256) * w + r = ap (λ t. a * t + r) (power k) ∙ omega arith in
    let here : ((a * 256) * w + r) / w % 256 ≡ r / w % 256 = ap (λ t. t % 256) (mul-add-div_right (power_pos k) (a * 256) r) ∙ mul-add-mod_self_right a 256 (r / w) in
    let more = octets_low k (a * 256) r in
    rw e (ap (λ t. t ∷ octets k ((a * 256) * w + r)) here ∙ ap (λ ts. r / w % 256 ∷ ts) more)

-- the octets of a text's number are the text
pub octets_number : (xs : List ℕ) → ((k : ℕ) → get_or xs k 0 < 256) → octets (length xs) (number xs) ≡ xs
unfolding octets
octets_number [] h = refl
octets_number (x ∷ xs) h =
    let w = 256 ^ length xs in
    let r_lt = number_lt xs (λ k. h (suc k)) in
    let x_lt : x < 256 = h 0 in
    let here : (x * w + number xs) / w % 256 ≡ x = ap (λ t. t % 256) (div-mul-add x w (number xs) r_lt) ∙ mod-eq_of_lt x_lt in
    let more = octets_low (length xs) x (number xs) ∙ octets_number xs (λ k. h (suc k)) in
    ap (λ t. t ∷ octets (length xs) (x * w + number xs)) here ∙ ap (λ ts. x ∷ ts) more

-- the same of a block
pub octets_block : (v : ℕ) (t : List ℕ) (i : ℕ) → ((k : ℕ) → get_or t k 0 < 256) → v * i + v ≤ length t → octets v (number (block_at v t i)) ≡ block_at v t i
octets_block v t i h fits =
    let size : length (block_at v t i) ≡ v = length-take-le v (drop (v * i) t) (omega (arith, length-drop (v * i) t, fits)) in
    let each : (k : ℕ) → get_or (block_at v t i) k 0 < 256 = λ k.
    elim (cases_lt k v) [
      | inl lt ↦ rw (get_or-take v (drop (v * i) t) k 0 lt) (rw (get_or-drop (v * i) t k 0) (h (v * i + k)))
      | inr le ↦ rw (get_or_past (block_at v t i) k 0 (omega (arith, size, le))) (lit< tt)
    ] in
    ap (λ n. octets n (number (block_at v t i))) (sym size) ∙ octets_number (block_at v t i) each

front_more : (v : ℕ) (t : List ℕ) (n : ℕ) → ((k : ℕ) → get_or t k 0 < 256) → v * n + v ≤ length t →
    flat_map (octets v) (map (λ i. number (block_at v t i)) (range_with_len 0 n)) ≡ take (v * n) t → flat_map (octets v) (map (λ i. number (block_at v t i)) (range_with_len 0 (n + 1))) ≡ take (v * (n + 1)) t
front_more v t n h fits before =
    let f : ℕ → ℕ = λ i. number (block_at v t i) in
    let more = map-range_with_len_more f 0 n n (zero-add n) in
    let both : v * (n + 1) ≡ v * n + v = omega arith in
    ap (flat_map (octets v)) more ∙ (flat_map-append (octets v) (map f (range_with_len 0 n)) (f n ∷ [])
    ∙ (ap (λ s. flat_map (octets v) (map f (range_with_len 0 n)) ++ s) (append-nil (octets v (f n)) ∙ octets_block v t n h fits)
    ∙ (ap (λ s. s ++ block_at v t n) before ∙ (sym (take-add (v * n) v t) ∙ ap (λ m. take m t) (sym both)))))

front_numbers : (v : ℕ) (t : List ℕ) (n : ℕ) → ((k : ℕ) → get_or t k 0 < 256) → v * n ≤ length t → flat_map (octets v) (map (λ i. number (block_at v t i)) (range_with_len 0 n)) ≡ take (v * n) t
front_numbers v t zero h fits = ap (λ m. take m t) (let none : 0 ≡ v * 0 = omega arith in none)
front_numbers v t (suc n) h fits =
    subst (λ (m : ℕ). flat_map (octets v) (map (λ i. number (block_at v t i)) (range_with_len 0 m)) ≡ take (v * m) t) (add-one n)
    (front_more v t n h (omega (arith, fits)) (front_numbers v t n h (omega (arith, fits))))

-- the octets of the numbers of whole blocks are the text
pub octets_numbers : (v : ℕ) (t : List ℕ) → ((k : ℕ) → get_or t k 0 < 256) → length t % v ≡ 0 → flat_map (octets v) (numbers v t) ≡ t
octets_numbers v t h whole =
    let len : length t ≡ v * (length t / v) = omega (arith, div-add-mod' (length t) v, whole) in
    front_numbers v t (length t / v) h (omega (arith, len)) ∙ (ap (λ m. take m t) (sym len) ∙ take-length t)

pub length-fill : (v : ℕ) (x : List ℕ) → length (fill v x) ≡ v * ((length x + (v - 1)) / v)
length-fill v x = length-map-range_with_len (λ i. get_or x (i % length x) 0) 0 (v * ((length x + (v - 1)) / v))

pub length-fills : (v : ℕ) (q s : List ℕ) → length (fill v s ++ fill v q) ≡ v * ((length s + (v - 1)) / v + (length q + (v - 1)) / v)
length-fills v q s = length-append (fill v s) (fill v q) ∙ omega (arith, length-fill v s, length-fill v q)

-- the first n octets of outputs of u octets each
pub length-answers : (v : ℕ) (run : List ℕ → List ℕ) (first : List ℕ) (u j : ℕ) → ((i : List ℕ) → length (run i) ≡ u) → length (answers v run first j) ≡ j * u
unfolding answers
length-answers v run first u zero h = sym (zero-mul u)
length-answers v run first u (suc j) h =
    length-append (answers v run first j) (run (inputs_at v run first j)) ∙ omega (arith, length-answers v run first u j h, h (inputs_at v run first j))

-- the numbers of the next turn
pub next_is : (v : ℕ) (t o a e i : List ℕ) → numbers v t ≡ next_inputs v a (numbers v o) → a ≡ e → numbers v o ≡ i → numbers v t ≡ next_inputs v e i
next_is v t o a e i h same now = h ∙ (ap (λ x. next_inputs v x (numbers v o)) same ∙ ap (next_inputs v e) now)

length-hashed : (h : List ℕ → List ℕ) (u r : ℕ) (m : List ℕ) → 1 ≤ r → ((m : List ℕ) → length (h m) ≡ u) → length (hashed h r m) ≡ u
unfolding hashed
length-hashed h u zero m le size = absurd (omega (arith, le))
length-hashed h u (suc r) m le size = size (hashed h r m)

-- as many octets are derived as are asked for
pub length-derive12 : (h : List ℕ → List ℕ) (q salt : List ℕ) (r id n : ℕ) → 1 ≤ r → ((m : List ℕ) → length (h m) ≡ 20) → length (derive12 h 20 q salt r id n) ≡ n
unfolding derive12_in
length-derive12 h q salt r id n le size =
    let run = answer 64 h r id in
    let first = numbers 64 (fill 64 salt ++ fill 64 q) in
    let all : length (answers 64 run first (turns n 20)) ≡ turns n 20 * 20 = length-answers 64 run first 20 (turns n 20) (λ i. length-hashed h 20 r _ le size) in
    length-take-le n (answers 64 run first (turns n 20)) (omega (arith, all))
