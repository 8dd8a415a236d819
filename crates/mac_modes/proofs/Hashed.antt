-- The blocks that GCM hashes.
use Rattle.std.proofs.Common.{◌≡◌, ◌∙◌, sym, ap, ℕ, suc, ◌+◌, ◌-◌, ◌*◌, ◌/◌, ◌%◌, ◌^◌, ◌<◌, ◌≤◌, List, [], ◌∷◌, ◌++◌, length, get_or, take, drop, replicate, refl, arith, bit_xor, inl, inr}
use Rattle.std.specs.Int.{w64, w128, to_be_bytes, from_be_bytes}
use Rattle.std.proofs.lemmas.Nat.{from_be_bytes-to_be_bytes_8}
use Rattle.std.proofs.lemmas.List.{take_at, drop_at, take_all, take-append-drop, length-append, length-replicate, length-take-le, length-drop, append_assoc, append-nil}
use Rattle.std.proofs.lemmas.Bool.{cases_lt}
use Rattle.mac_modes.specs.Cbc.{block}
use Rattle.mac_modes.specs.GcmField.{times}
use Rattle.mac_modes.specs.Gcm.{ghash, blocks_of, filled}

-- twelve octets and others
pub twelve : (xs rest : List ℕ) → length xs ≡ 12 → get_or xs 0 0 ∷ get_or xs 1 0 ∷ get_or xs 2 0 ∷ get_or xs 3 0 ∷ get_or xs 4 0 ∷ get_or xs 5 0 ∷ get_or xs 6 0 ∷ get_or xs 7 0 ∷ get_or xs 8 0 ∷ get_or xs 9 0 ∷ get_or xs 10 0 ∷ get_or xs 11 0 ∷ rest ≡ xs ++ rest
twelve [] rest l = absurd (omega arith)
twelve (x0 ∷ []) rest l = absurd (omega arith)
twelve (x0 ∷ x1 ∷ []) rest l = absurd (omega arith)
twelve (x0 ∷ x1 ∷ x2 ∷ []) rest l = absurd (omega arith)
twelve (x0 ∷ x1 ∷ x2 ∷ x3 ∷ []) rest l = absurd (omega arith)
twelve (x0 ∷ x1 ∷ x2 ∷ x3 ∷ x4 ∷ []) rest l = absurd (omega arith)
twelve (x0 ∷ x1 ∷ x2 ∷ x3 ∷ x4 ∷ x5 ∷ []) rest l = absurd (omega arith)
twelve (x0 ∷ x1 ∷ x2 ∷ x3 ∷ x4 ∷ x5 ∷ x6 ∷ []) rest l = absurd (omega arith)
twelve (x0 ∷ x1 ∷ x2 ∷ x3 ∷ x4 ∷ x5 ∷ x6 ∷ x7 ∷ []) rest l = absurd (omega arith)
twelve (x0 ∷ x1 ∷ x2 ∷ x3 ∷ x4 ∷ x5 ∷ x6 ∷ x7 ∷ x8 ∷ []) rest l = absurd (omega arith)
twelve (x0 ∷ x1 ∷ x2 ∷ x3 ∷ x4 ∷ x5 ∷ x6 ∷ x7 ∷ x8 ∷ x9 ∷ []) rest l = absurd (omega arith)
twelve (x0 ∷ x1 ∷ x2 ∷ x3 ∷ x4 ∷ x5 ∷ x6 ∷ x7 ∷ x8 ∷ x9 ∷ x10 ∷ []) rest l = absurd (omega arith)
twelve (x0 ∷ x1 ∷ x2 ∷ x3 ∷ x4 ∷ x5 ∷ x6 ∷ x7 ∷ x8 ∷ x9 ∷ x10 ∷ x11 ∷ []) rest l = refl
twelve (x0 ∷ x1 ∷ x2 ∷ x3 ∷ x4 ∷ x5 ∷ x6 ∷ x7 ∷ x8 ∷ x9 ∷ x10 ∷ x11 ∷ y ∷ ys) rest l = absurd (omega arith)

-- a piece in the midst of a text
piece : (p m s : List ℕ) (a n : ℕ) → length p ≡ a → length m ≡ n → take n (drop a (p ++ (m ++ s))) ≡ m
piece p m s a n lp lm = ap (take n) (drop_at p (m ++ s) a lp) ∙ take_at m s n lm

-- a whole block of the ciphertext
pub whole_block : (c L : List ℕ) (i k : ℕ) → 16 * i + 16 ≤ length c → k ≡ 16
    → take k (drop (16 * i) c) ++ replicate (16 - length (take k (drop (16 * i) c))) 0 ≡ block 16 i (filled c ++ L)
whole_block c L i k room ek =
    let p : List ℕ = take (16 * i) c in
    let q : List ℕ = drop (16 * i) c in
    let m : List ℕ = take 16 q in
    let z : List ℕ = replicate (16 * blocks_of (length c) - length c) 0 in
    let lp : length p ≡ 16 * i = length-take-le (16 * i) c (omega arith) in
    let lq : length q ≡ length c - 16 * i = length-drop (16 * i) c in
    let lm : length m ≡ 16 = length-take-le 16 q (omega (arith, lq)) in
    let none : 16 - length m ≡ 0 = omega (arith, lm) in
    let split : p ++ (m ++ (drop 16 q ++ (z ++ L))) ≡ filled c ++ L =
    ap (λ (x : List ℕ). p ++ x) (sym (append_assoc m (drop 16 q) (z ++ L)) ∙ ap (λ (x : List ℕ). x ++ (z ++ L)) (take-append-drop 16 q))
    ∙ sym (append_assoc p q (z ++ L)) ∙ ap (λ (x : List ℕ). x ++ (z ++ L)) (take-append-drop (16 * i) c) ∙ sym (append_assoc c z L) in
    ap (λ (n : ℕ). take n q ++ replicate (16 - length (take n q)) 0) ek
    ∙ ap (λ (n : ℕ). m ++ replicate n 0) none ∙ append-nil m
    ∙ sym (piece p m (drop 16 q ++ (z ++ L)) (16 * i) 16 lp lm)
    ∙ ap (block 16 i) split

-- the last piece, filled with zeros
pub rest_block : (c L : List ℕ) (i : ℕ) → i ≡ length c / 16 → 0 < length c % 16
    → drop (16 * i) c ++ replicate (16 - length (drop (16 * i) c)) 0 ≡ block 16 i (filled c ++ L)
rest_block c L i ei some =
    let p : List ℕ = take (16 * i) c in
    let q : List ℕ = drop (16 * i) c in
    let lp : length p ≡ 16 * i = length-take-le (16 * i) c (omega arith) in
    let lq : length q ≡ length c - 16 * i = length-drop (16 * i) c in
    let gap : 16 - length q ≡ 16 * blocks_of (length c) - length c = omega (arith, lq) in
    let z : List ℕ = replicate (16 * blocks_of (length c) - length c) 0 in
    let lz : length z ≡ 16 * blocks_of (length c) - length c = length-replicate {A = ℕ} (16 * blocks_of (length c) - length c) 0 in
    let lm : length (q ++ z) ≡ 16 = length-append q z ∙ omega (arith, lq, lz) in
    let split : p ++ ((q ++ z) ++ L) ≡ filled c ++ L =
    sym (append_assoc p (q ++ z) L) ∙ ap (λ (x : List ℕ). x ++ L) (sym (append_assoc p q z) ∙ ap (λ (x : List ℕ). x ++ z) (take-append-drop (16 * i) c)) in
    ap (λ (n : ℕ). q ++ replicate n 0) gap
    ∙ sym (piece p (q ++ z) L (16 * i) 16 lp lm)
    ∙ ap (block 16 i) split

-- the block of the lengths
pub last_block : (c L : List ℕ) → length L ≡ 16 → block 16 (blocks_of (length c)) (filled c ++ L) ≡ L
last_block c L l =
    let n : ℕ = 16 * blocks_of (length c) in
    let z : List ℕ = replicate (n - length c) 0 in
    let lz : length z ≡ n - length c = length-replicate {A = ℕ} (n - length c) 0 in
    let lf : length (c ++ z) ≡ n = length-append c z ∙ omega (arith, lz) in
    ap (take 16) (drop_at (c ++ z) L n lf) ∙ take_all 16 L (omega arith)

pub lengths_number : (x : ℕ) → x < 2 ^ 64 → from_be_bytes w128 (to_be_bytes w64 0 ++ to_be_bytes w64 x) ≡ x
lengths_number x h =
    let e = from_be_bytes-to_be_bytes_8 x h in
    let same : from_be_bytes w128 (to_be_bytes w64 0 ++ to_be_bytes w64 x) ≡ from_be_bytes w64 (to_be_bytes w64 x) = omega arith in
    same ∙ e

pub ghash_more : (h i y : ℕ) (t piece : List ℕ) → y ≡ ghash h i t → piece ≡ block 16 i t
    → times (bit_xor y (from_be_bytes w128 piece)) h ≡ ghash h (i + 1) t
unfolding ghash
ghash_more h i y t piece ey ep =
    let e : suc i ≡ i + 1 = omega arith in
    (λ j. times (bit_xor (ey j) (from_be_bytes w128 (ep j))) h) ∙ ap (λ (k : ℕ). ghash h k t) e

-- the last piece, where there is one
pub rest_of : (h : ℕ) (t L : List ℕ) (i y all : ℕ) (r : List ℕ) → i ≡ length t / 16 → r ≡ drop (16 * i) t → y ≡ ghash h i (filled t ++ L)
    → (length r ≡ 0 → all ≡ y)
    → (0 < length r → all ≡ times (bit_xor y (from_be_bytes w128 (r ++ replicate (16 - length r) 0))) h)
    → all ≡ ghash h (blocks_of (length t)) (filled t ++ L)
rest_of h t L i y all r ei er ey none some =
    let lr : length r ≡ length t - 16 * i = ap length er ∙ length-drop (16 * i) t in
    elim (cases_lt 0 (length r)) [
      | inl more ↦
          let one : i + 1 ≡ blocks_of (length t) = omega (arith, lr) in
          let part : 0 < length t % 16 = omega (arith, lr) in
          some more
          ∙ ghash_more h i y (filled t ++ L) _ ey (ap (λ (x : List ℕ). x ++ replicate (16 - length x) 0) er ∙ rest_block t L i ei part)
          ∙ ap (λ (k : ℕ). ghash h k (filled t ++ L)) one
      | inr nothing ↦
          let same : i ≡ blocks_of (length t) = omega (arith, lr) in
          none (omega arith) ∙ ey ∙ ap (λ (k : ℕ). ghash h k (filled t ++ L)) same
    ]

pub dropped : (t : List ℕ) (a b : ℕ) → a ≡ b → take (length t - a) (drop a t) ≡ drop b t
dropped t a b e = take_all (length t - a) (drop a t) (omega (arith, length-drop a t)) ∙ ap (λ (k : ℕ). drop k t) e
