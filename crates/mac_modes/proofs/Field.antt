-- The field of GCM: products by four bits a step.
use Rattle.std.proofs.Common.{lit<, ◌≡◌, ◌∙◌, sym, ap, ap₂, ◌+◌, ◌*◌, ◌/◌, ◌%◌, ◌^◌, ◌<◌, ℕ, zero, suc, List, [], ◌∷◌, refl, bit_xor, get_or, arith}
use Rattle.std.specs.Int.Bits.{xor_assoc, xor_zero_r}
use Rattle.std.proofs.lemmas.Nat.{xor_shr, xor_block, shr-shr}
use Rattle.std.proofs.lemmas.Nat.Bits.{bit_at_xor}
use Rattle.block_core.specs.FieldLaws.{xor_interchange, scaled_xor}
use Rattle.mac_modes.specs.GcmField.{times_x, times_below, times_x4, AreProducts}
use Rattle.mac_modes.specs.declared.gcm_field.TheConstants.{REDUCED}

bit_at_low : (a b : ℕ) → bit_xor a b % 2 ≡ (a % 2 + b % 2) % 2
bit_at_low a b =
    let low : (n : ℕ) → n / 2 ^ 0 % 2 ≡ n % 2 = λ (n : ℕ). let e : n / 1 ≡ n = omega arith in ap (λ (x : ℕ). x % 2) e in
    sym (low (bit_xor a b)) ∙ bit_at_xor a b 0 ∙ ap₂ (λ (x y : ℕ). (x + y) % 2) (low a) (low b)

-- multiplying by x is linear
times_x-xor : (a b : ℕ) → times_x (bit_xor a b) ≡ bit_xor (times_x a) (times_x b)
unfolding times_x
times_x-xor a b =
    let k : ℕ = 0xe1 * 2 ^ 120 in
    ap₂ bit_xor (xor_shr a b 1)
    (ap (λ (x : ℕ). x * k) (bit_at_low a b) ∙ scaled_xor (a % 2) (b % 2) k (omega arith) (omega arith))
    ∙ xor_interchange (a / 2) (b / 2) (a % 2 * k) (b % 2 * k)

times_x4-xor : (a b : ℕ) → times_x4 (bit_xor a b) ≡ bit_xor (times_x4 a) (times_x4 b)
times_x4-xor a b =
    ap (λ (x : ℕ). times_x (times_x (times_x x))) (times_x-xor a b)
    ∙ ap (λ (x : ℕ). times_x (times_x x)) (times_x-xor (times_x a) (times_x b))
    ∙ ap times_x (times_x-xor (times_x (times_x a)) (times_x (times_x b)))
    ∙ times_x-xor (times_x (times_x (times_x a))) (times_x (times_x (times_x b)))

-- an even number is only halved
even : (m : ℕ) → times_x (m * 2) ≡ m
unfolding times_x
even m =
    let h : m * 2 / 2 ≡ m = omega arith in
    let z : m * 2 % 2 ≡ 0 = omega arith in
    ap₂ bit_xor h (ap (λ (x : ℕ). x * (0xe1 * 2 ^ 120)) z) ∙ xor_zero_r m

-- four times x is one shift by four places and the reduction of the four lowest coefficients
times_x4-split : (a : ℕ) → times_x4 a ≡ bit_xor (a / 16) (times_x4 (a % 16))
times_x4-split a =
    let split : bit_xor (a / 16 * 2 ^ 4 + 0) (0 * 2 ^ 4 + a % 16) ≡ bit_xor (a / 16) 0 * 2 ^ 4 + bit_xor 0 (a % 16) =
    xor_block 4 (a / 16) 0 0 (a % 16) (lit< tt) (omega arith) in
    let l : a / 16 * 2 ^ 4 + 0 ≡ a / 16 * 16 = omega arith in
    let r : 0 * 2 ^ 4 + a % 16 ≡ a % 16 = omega arith in
    let whole : bit_xor (a / 16) 0 * 2 ^ 4 + a % 16 ≡ a = ap (λ (x : ℕ). x * 2 ^ 4 + a % 16) (xor_zero_r (a / 16)) ∙ omega arith in
    let parts : bit_xor (a / 16 * 16) (a % 16) ≡ a = sym (ap₂ bit_xor l r) ∙ split ∙ whole in
    let halves : a / 16 * 16 ≡ a / 16 * 2 * 2 * 2 * 2 = omega arith in
    let m : ℕ = a / 16 in
    ap times_x4 (sym parts) ∙ times_x4-xor (a / 16 * 16) (a % 16)
    ∙ ap (λ (x : ℕ). bit_xor x (times_x4 (a % 16)))
    (ap times_x4 halves ∙ ap (λ (x : ℕ). times_x (times_x (times_x x))) (even (m * 2 * 2 * 2)) ∙ ap (λ (x : ℕ). times_x (times_x x)) (even (m * 2 * 2)) ∙ ap times_x (even (m * 2)) ∙ even m)

-- the sixteen reductions
reduced_at : (v : ℕ) → v < 16 → get_or REDUCED v 0 * 2 ^ 112 ≡ times_x4 v
unfolding times_x
reduced_at zero h = refl
reduced_at (suc zero) h = refl
reduced_at (suc (suc zero)) h = refl
reduced_at (suc (suc (suc zero))) h = refl
reduced_at (suc (suc (suc (suc zero)))) h = refl
reduced_at (suc (suc (suc (suc (suc zero))))) h = refl
reduced_at (suc (suc (suc (suc (suc (suc zero)))))) h = refl
reduced_at (suc (suc (suc (suc (suc (suc (suc zero))))))) h = refl
reduced_at (suc (suc (suc (suc (suc (suc (suc (suc zero)))))))) h = refl
reduced_at (suc (suc (suc (suc (suc (suc (suc (suc (suc zero))))))))) h = refl
reduced_at (suc (suc (suc (suc (suc (suc (suc (suc (suc (suc zero)))))))))) h = refl
reduced_at (suc (suc (suc (suc (suc (suc (suc (suc (suc (suc (suc zero))))))))))) h = refl
reduced_at (suc (suc (suc (suc (suc (suc (suc (suc (suc (suc (suc (suc zero)))))))))))) h = refl
reduced_at (suc (suc (suc (suc (suc (suc (suc (suc (suc (suc (suc (suc (suc zero))))))))))))) h = refl
reduced_at (suc (suc (suc (suc (suc (suc (suc (suc (suc (suc (suc (suc (suc (suc zero)))))))))))))) h = refl
reduced_at (suc (suc (suc (suc (suc (suc (suc (suc (suc (suc (suc (suc (suc (suc (suc zero))))))))))))))) h = refl
reduced_at (suc (suc (suc (suc (suc (suc (suc (suc (suc (suc (suc (suc (suc (suc (suc (suc v)))))))))))))))) h = absurd (omega arith)

pub x4_is : (b w : ℕ) → w ≡ get_or REDUCED (b % 16) 0 → w < 2 ^ 16 → bit_xor (b / 2 ^ 4) (w * 2 ^ 112 % 2 ^ 128) ≡ times_x4 b
x4_is b w is small =
    let low : b % 16 < 16 = omega arith in
    let whole : w * 2 ^ 112 % 2 ^ 128 ≡ w * 2 ^ 112 = omega arith in
    ap (bit_xor (b / 2 ^ 4)) (whole ∙ ap (λ (x : ℕ). x * 2 ^ 112) is ∙ reduced_at (b % 16) low) ∙ sym (times_x4-split b)

zero_times : (n : ℕ) → 0 * n ≡ 0
zero_times n = omega arith

one_times : (n : ℕ) → 1 * n ≡ n
one_times n = omega arith

-- a coefficient may be multiplied later
bit_times_x : (p b : ℕ) → p < 2 → times_x (p * b) ≡ p * times_x b
unfolding times_x
bit_times_x zero b h = ap (λ (x : ℕ). bit_xor (x / 2) (x % 2 * (0xe1 * 2 ^ 120))) (zero_times b) ∙ sym (zero_times _)
bit_times_x (suc zero) b h = ap (λ (x : ℕ). bit_xor (x / 2) (x % 2 * (0xe1 * 2 ^ 120))) (one_times b) ∙ sym (one_times _)
bit_times_x (suc (suc p)) b h = absurd (omega arith)

x_of_zero : times_x 0 ≡ 0
unfolding times_x
x_of_zero = refl

-- x may be multiplied later
x_later : (n a b : ℕ) → times_below n a (times_x b) ≡ times_x (times_below n a b)
unfolding times_below
x_later zero a b = sym x_of_zero
x_later (suc n) a b =
    ap₂ bit_xor (sym (bit_times_x (a / 2 ^ n % 2) b (omega arith))) (x_later n a (times_x b))
    ∙ sym (times_x-xor (a / 2 ^ n % 2 * b) (times_below n a (times_x b)))

x4_later : (n a b : ℕ) → times_below n a (times_x4 b) ≡ times_x4 (times_below n a b)
x4_later n a b =
    x_later n a (times_x (times_x (times_x b)))
    ∙ ap times_x (x_later n a (times_x (times_x b)))
    ∙ ap (λ (x : ℕ). times_x (times_x x)) (x_later n a (times_x b))
    ∙ ap (λ (x : ℕ). times_x (times_x (times_x x))) (x_later n a b)

-- four coefficients more, from four bits above n
four_more : (n a b : ℕ) → times_below (suc (suc (suc (suc n)))) a b ≡ bit_xor (times_below 4 (a / 2 ^ n % 16) b) (times_x4 (times_below n a b))
unfolding times_below
four_more n a b =
    let v : ℕ = a / 2 ^ n % 16 in
    let q : ℕ = a / 2 ^ n in
    let b3 : a / 2 ^ suc (suc (suc n)) % 2 ≡ v / 2 ^ 3 % 2 =
    ap (λ (k : ℕ). a / 2 ^ k % 2) (let e : suc (suc (suc n)) ≡ n + 3 = omega arith in e) ∙ ap (λ (x : ℕ). x % 2) (sym (shr-shr a n 3)) ∙ (let e : q / 2 ^ 3 % 2 ≡ q % 16 / 2 ^ 3 % 2 = omega arith in e) in
    let b2 : a / 2 ^ suc (suc n) % 2 ≡ v / 2 ^ 2 % 2 =
    ap (λ (k : ℕ). a / 2 ^ k % 2) (let e : suc (suc n) ≡ n + 2 = omega arith in e) ∙ ap (λ (x : ℕ). x % 2) (sym (shr-shr a n 2)) ∙ (let e : q / 2 ^ 2 % 2 ≡ q % 16 / 2 ^ 2 % 2 = omega arith in e) in
    let b1 : a / 2 ^ suc n % 2 ≡ v / 2 ^ 1 % 2 =
    ap (λ (k : ℕ). a / 2 ^ k % 2) (let e : suc n ≡ n + 1 = omega arith in e) ∙ ap (λ (x : ℕ). x % 2) (sym (shr-shr a n 1)) ∙ (let e : q / 2 ^ 1 % 2 ≡ q % 16 / 2 ^ 1 % 2 = omega arith in e) in
    let b0 : a / 2 ^ n % 2 ≡ v / 2 ^ 0 % 2 = let e : q % 2 ≡ q % 16 / 2 ^ 0 % 2 = omega arith in e in
    let w : ℕ = v / 2 ^ 3 % 2 * b in
    let x : ℕ = v / 2 ^ 2 % 2 * times_x b in
    let y : ℕ = v / 2 ^ 1 % 2 * times_x (times_x b) in
    let z : ℕ = v / 2 ^ 0 % 2 * times_x (times_x (times_x b)) in
    let r : ℕ = times_below n a (times_x4 b) in
    (λ i. bit_xor (b3 i * b) (bit_xor (b2 i * times_x b) (bit_xor (b1 i * times_x (times_x b)) (bit_xor (b0 i * times_x (times_x (times_x b))) r))))
    ∙ ap (λ (s : ℕ). bit_xor w (bit_xor x (bit_xor y s))) (ap (λ (s : ℕ). bit_xor s r) (sym (xor_zero_r z)))
    ∙ ap (λ (s : ℕ). bit_xor w (bit_xor x s)) (sym (xor_assoc y (bit_xor z 0) r))
    ∙ ap (bit_xor w) (sym (xor_assoc x (bit_xor y (bit_xor z 0)) r))
    ∙ sym (xor_assoc w (bit_xor x (bit_xor y (bit_xor z 0))) r)
    ∙ ap (bit_xor (bit_xor w (bit_xor x (bit_xor y (bit_xor z 0))))) (x4_later n a b)

-- a step of the loop
pub product_step : (k a h product rest : ℕ) (table : List ℕ) → AreProducts h table → rest ≡ a / 2 ^ (4 * k) → product ≡ times_below (4 * k) a h
    → bit_xor (get_or table (rest % 16) 0) (times_x4 product) ≡ times_below (4 * (k + 1)) a h
product_step k a h product rest table is er ep =
    let n : ℕ = 4 * k in
    let e : suc (suc (suc (suc n))) ≡ 4 * (k + 1) = omega arith in
    let low : rest % 16 < 16 = omega arith in
    ap₂ bit_xor (is (rest % 16) low ∙ ap (λ (x : ℕ). times_below 4 (x % 16) h) er) (ap times_x4 ep)
    ∙ sym (four_more n a h) ∙ ap (λ (j : ℕ). times_below j a h) e

pub rest_step : (k a rest : ℕ) → rest ≡ a / 2 ^ (4 * k) → rest / 2 ^ 4 ≡ a / 2 ^ (4 * (k + 1))
rest_step k a rest er =
    let e : 4 * k + 4 ≡ 4 * (k + 1) = omega arith in
    ap (λ (x : ℕ). x / 2 ^ 4) er ∙ shr-shr a (4 * k) 4 ∙ ap (λ (j : ℕ). a / 2 ^ j) e

-- the sixteen products
pub products_are : (h b c d : ℕ) → b ≡ times_x h → c ≡ times_x b → d ≡ times_x c → AreProducts h (0 ∷ d ∷ c ∷ (bit_xor c d) ∷ b ∷ (bit_xor b d) ∷ (bit_xor b c) ∷ (bit_xor b (bit_xor c d)) ∷ h ∷ (bit_xor h d) ∷ (bit_xor h c) ∷ (bit_xor h (bit_xor c d)) ∷ (bit_xor h b) ∷ (bit_xor h (bit_xor b d)) ∷ (bit_xor h (bit_xor b c)) ∷ (bit_xor h (bit_xor b (bit_xor c d))) ∷ [])
unfolding times_below
products_are h b c d eb ec ed zero lt =
    let fb = eb in
    let fc = ec ∙ ap times_x fb in
    let fd = ed ∙ ap times_x fc in
    sym (λ j. bit_xor (zero_times h j) (bit_xor (zero_times (times_x h) j) (bit_xor (zero_times (times_x (times_x h)) j) (bit_xor (zero_times (times_x (times_x (times_x h))) j) (0)))))
products_are h b c d eb ec ed (suc zero) lt =
    let fb = eb in
    let fc = ec ∙ ap times_x fb in
    let fd = ed ∙ ap times_x fc in
    (λ j. (fd j)) ∙ sym (λ j. xor_zero_r (times_x (times_x (times_x h))) j) ∙ sym (λ j. bit_xor (zero_times h j) (bit_xor (zero_times (times_x h) j) (bit_xor (zero_times (times_x (times_x h)) j) (bit_xor (one_times (times_x (times_x (times_x h))) j) (0)))))
products_are h b c d eb ec ed (suc (suc zero)) lt =
    let fb = eb in
    let fc = ec ∙ ap times_x fb in
    let fd = ed ∙ ap times_x fc in
    (λ j. (fc j)) ∙ sym (λ j. xor_zero_r (times_x (times_x h)) j) ∙ sym (λ j. bit_xor (zero_times h j) (bit_xor (zero_times (times_x h) j) (bit_xor (one_times (times_x (times_x h)) j) (bit_xor (zero_times (times_x (times_x (times_x h))) j) (0)))))
products_are h b c d eb ec ed (suc (suc (suc zero))) lt =
    let fb = eb in
    let fc = ec ∙ ap times_x fb in
    let fd = ed ∙ ap times_x fc in
    (λ j. (bit_xor (fc j) (fd j))) ∙ sym (λ j. bit_xor (times_x (times_x h)) (xor_zero_r (times_x (times_x (times_x h))) j)) ∙ sym (λ j. bit_xor (zero_times h j) (bit_xor (zero_times (times_x h) j) (bit_xor (one_times (times_x (times_x h)) j) (bit_xor (one_times (times_x (times_x (times_x h))) j) (0)))))
products_are h b c d eb ec ed (suc (suc (suc (suc zero)))) lt =
    let fb = eb in
    let fc = ec ∙ ap times_x fb in
    let fd = ed ∙ ap times_x fc in
    (λ j. (fb j)) ∙ sym (λ j. xor_zero_r (times_x h) j) ∙ sym (λ j. bit_xor (zero_times h j) (bit_xor (one_times (times_x h) j) (bit_xor (zero_times (times_x (times_x h)) j) (bit_xor (zero_times (times_x (times_x (times_x h))) j) (0)))))
products_are h b c d eb ec ed (suc (suc (suc (suc (suc zero))))) lt =
    let fb = eb in
    let fc = ec ∙ ap times_x fb in
    let fd = ed ∙ ap times_x fc in
    (λ j. (bit_xor (fb j) (fd j))) ∙ sym (λ j. bit_xor (times_x h) (xor_zero_r (times_x (times_x (times_x h))) j)) ∙ sym (λ j. bit_xor (zero_times h j) (bit_xor (one_times (times_x h) j) (bit_xor (zero_times (times_x (times_x h)) j) (bit_xor (one_times (times_x (times_x (times_x h))) j) (0)))))
products_are h b c d eb ec ed (suc (suc (suc (suc (suc (suc zero)))))) lt =
    let fb = eb in
    let fc = ec ∙ ap times_x fb in
    let fd = ed ∙ ap times_x fc in
    (λ j. (bit_xor (fb j) (fc j))) ∙ sym (λ j. bit_xor (times_x h) (xor_zero_r (times_x (times_x h)) j)) ∙ sym (λ j. bit_xor (zero_times h j) (bit_xor (one_times (times_x h) j) (bit_xor (one_times (times_x (times_x h)) j) (bit_xor (zero_times (times_x (times_x (times_x h))) j) (0)))))
products_are h b c d eb ec ed (suc (suc (suc (suc (suc (suc (suc zero))))))) lt =
    let fb = eb in
    let fc = ec ∙ ap times_x fb in
    let fd = ed ∙ ap times_x fc in
    (λ j. (bit_xor (fb j) (bit_xor (fc j) (fd j)))) ∙ sym (λ j. bit_xor (times_x h) (bit_xor (times_x (times_x h)) (xor_zero_r (times_x (times_x (times_x h))) j))) ∙ sym (λ j. bit_xor (zero_times h j) (bit_xor (one_times (times_x h) j) (bit_xor (one_times (times_x (times_x h)) j) (bit_xor (one_times (times_x (times_x (times_x h))) j) (0)))))
products_are h b c d eb ec ed (suc (suc (suc (suc (suc (suc (suc (suc zero)))))))) lt =
    let fb = eb in
    let fc = ec ∙ ap times_x fb in
    let fd = ed ∙ ap times_x fc in
    (λ j. h) ∙ sym (λ j. xor_zero_r h j) ∙ sym (λ j. bit_xor (one_times h j) (bit_xor (zero_times (times_x h) j) (bit_xor (zero_times (times_x (times_x h)) j) (bit_xor (zero_times (times_x (times_x (times_x h))) j) (0)))))
products_are h b c d eb ec ed (suc (suc (suc (suc (suc (suc (suc (suc (suc zero))))))))) lt =
    let fb = eb in
    let fc = ec ∙ ap times_x fb in
    let fd = ed ∙ ap times_x fc in
    (λ j. (bit_xor h (fd j))) ∙ sym (λ j. bit_xor h (xor_zero_r (times_x (times_x (times_x h))) j)) ∙ sym (λ j. bit_xor (one_times h j) (bit_xor (zero_times (times_x h) j) (bit_xor (zero_times (times_x (times_x h)) j) (bit_xor (one_times (times_x (times_x (times_x h))) j) (0)))))
products_are h b c d eb ec ed (suc (suc (suc (suc (suc (suc (suc (suc (suc (suc zero)))))))))) lt =
    let fb = eb in
    let fc = ec ∙ ap times_x fb in
    let fd = ed ∙ ap times_x fc in
    (λ j. (bit_xor h (fc j))) ∙ sym (λ j. bit_xor h (xor_zero_r (times_x (times_x h)) j)) ∙ sym (λ j. bit_xor (one_times h j) (bit_xor (zero_times (times_x h) j) (bit_xor (one_times (times_x (times_x h)) j) (bit_xor (zero_times (times_x (times_x (times_x h))) j) (0)))))
products_are h b c d eb ec ed (suc (suc (suc (suc (suc (suc (suc (suc (suc (suc (suc zero))))))))))) lt =
    let fb = eb in
    let fc = ec ∙ ap times_x fb in
    let fd = ed ∙ ap times_x fc in
    (λ j. (bit_xor h (bit_xor (fc j) (fd j)))) ∙ sym (λ j. bit_xor h (bit_xor (times_x (times_x h)) (xor_zero_r (times_x (times_x (times_x h))) j))) ∙ sym (λ j. bit_xor (one_times h j) (bit_xor (zero_times (times_x h) j) (bit_xor (one_times (times_x (times_x h)) j) (bit_xor (one_times (times_x (times_x (times_x h))) j) (0)))))
products_are h b c d eb ec ed (suc (suc (suc (suc (suc (suc (suc (suc (suc (suc (suc (suc zero)))))))))))) lt =
    let fb = eb in
    let fc = ec ∙ ap times_x fb in
    let fd = ed ∙ ap times_x fc in
    (λ j. (bit_xor h (fb j))) ∙ sym (λ j. bit_xor h (xor_zero_r (times_x h) j)) ∙ sym (λ j. bit_xor (one_times h j) (bit_xor (one_times (times_x h) j) (bit_xor (zero_times (times_x (times_x h)) j) (bit_xor (zero_times (times_x (times_x (times_x h))) j) (0)))))
products_are h b c d eb ec ed (suc (suc (suc (suc (suc (suc (suc (suc (suc (suc (suc (suc (suc zero))))))))))))) lt =
    let fb = eb in
    let fc = ec ∙ ap times_x fb in
    let fd = ed ∙ ap times_x fc in
    (λ j. (bit_xor h (bit_xor (fb j) (fd j)))) ∙ sym (λ j. bit_xor h (bit_xor (times_x h) (xor_zero_r (times_x (times_x (times_x h))) j))) ∙ sym (λ j. bit_xor (one_times h j) (bit_xor (one_times (times_x h) j) (bit_xor (zero_times (times_x (times_x h)) j) (bit_xor (one_times (times_x (times_x (times_x h))) j) (0)))))
products_are h b c d eb ec ed (suc (suc (suc (suc (suc (suc (suc (suc (suc (suc (suc (suc (suc (suc zero)))))))))))))) lt =
    let fb = eb in
    let fc = ec ∙ ap times_x fb in
    let fd = ed ∙ ap times_x fc in
    (λ j. (bit_xor h (bit_xor (fb j) (fc j)))) ∙ sym (λ j. bit_xor h (bit_xor (times_x h) (xor_zero_r (times_x (times_x h)) j))) ∙ sym (λ j. bit_xor (one_times h j) (bit_xor (one_times (times_x h) j) (bit_xor (one_times (times_x (times_x h)) j) (bit_xor (zero_times (times_x (times_x (times_x h))) j) (0)))))
products_are h b c d eb ec ed (suc (suc (suc (suc (suc (suc (suc (suc (suc (suc (suc (suc (suc (suc (suc zero))))))))))))))) lt =
    let fb = eb in
    let fc = ec ∙ ap times_x fb in
    let fd = ed ∙ ap times_x fc in
    (λ j. (bit_xor h (bit_xor (fb j) (bit_xor (fc j) (fd j))))) ∙ sym (λ j. bit_xor h (bit_xor (times_x h) (bit_xor (times_x (times_x h)) (xor_zero_r (times_x (times_x (times_x h))) j)))) ∙ sym (λ j. bit_xor (one_times h j) (bit_xor (one_times (times_x h) j) (bit_xor (one_times (times_x (times_x h)) j) (bit_xor (one_times (times_x (times_x (times_x h))) j) (0)))))
products_are h b c d eb ec ed (suc (suc (suc (suc (suc (suc (suc (suc (suc (suc (suc (suc (suc (suc (suc (suc v)))))))))))))))) lt = absurd (omega arith)
