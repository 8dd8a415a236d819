-- The xor of two texts.
use Rattle.std.proofs.Common.{add-zero, ◌≡◌, ℕ, zero, suc, ◌+◌, ◌-◌, ◌*◌, ◌≤◌, List, [], ◌∷◌, ◌++◌, length, take, sym, refl, ap, ◌∙◌, arith, add-one, bit_xor, length-append, zero-mul}
use Rattle.std.specs.Prelude.{max}
use Rattle.std.proofs.lemmas.List.{length-take-le}
use Rattle.pbkdf2.proofs.Pieces.{enough}
use Rattle.std.proofs.lemmas.List.{take_all, take-take, take-append-le}
use Rattle.std.proofs.lemmas.Nat.{le-div}
use Rattle.std.proofs.Math.Nat.{div-mul-le_self}
use Rattle.block_core.specs.Bits.{xor_each}
use Rattle.block_core.specs.BitsLaws.{length-xor_each}
use Rattle.pbkdf2.specs.Pbkdf2.{block_count, pbkdf2, ShorterIsPrefix, ZeroIsOne, HasItsLength, chained, xor_through, block, blocks}

pub take-xor : (n : ℕ) (xs ys : List ℕ) → take n (xor_each xs ys) ≡ xor_each (take n xs) (take n ys)
unfolding xor_each
take-xor zero xs ys = refl
take-xor (suc n) [] ys = refl
take-xor (suc n) (x ∷ xs) [] = refl
take-xor (suc n) (x ∷ xs) (y ∷ ys) = ap (λ s. bit_xor x y ∷ s) (take-xor n xs ys)

length-chained : (f : List ℕ → List ℕ) (u : ℕ) (first : List ℕ) → ((m : List ℕ) → length (f m) ≡ u) → length first ≡ u → (j : ℕ) → length (chained f first j) ≡ u
unfolding chained
length-chained f u first h e zero = e
length-chained f u first h e (suc j) = h (chained f first j)

length-xor_through : (f : List ℕ → List ℕ) (u : ℕ) (first : List ℕ) → ((m : List ℕ) → length (f m) ≡ u) → length first ≡ u → (j : ℕ) → length (xor_through f first j) ≡ u
unfolding xor_through
length-xor_through f u first h e zero = e
length-xor_through f u first h e (suc j) =
    let before = length-xor_through f u first h e j in
    length-xor_each (xor_through f first j) (chained f first (suc j)) (before ∙ sym (length-chained f u first h e (suc j))) ∙ before

-- a block has the length of a result
pub length-block : (f : List ℕ → List ℕ) (u : ℕ) (salt : List ℕ) (r i : ℕ) → ((m : List ℕ) → length (f m) ≡ u) → length (block f salt r i) ≡ u
length-block f u salt r i h = length-xor_through f u _ h (h _) (max r 1 - 1)

pub length-blocks : (f : List ℕ → List ℕ) (u : ℕ) (salt : List ℕ) (r n : ℕ) → ((m : List ℕ) → length (f m) ≡ u) → length (blocks f salt r n) ≡ n * u
unfolding blocks
length-blocks f u salt r zero h = sym (zero-mul u)
length-blocks f u salt r (suc n) h =
    length-append (blocks f salt r n) (block f salt r (suc n)) ∙ omega (arith, length-blocks f u salt r n h, length-block f u salt r (suc n) h)

pub blocks_more : (f : List ℕ → List ℕ) (salt : List ℕ) (r n : ℕ) → blocks f salt r (n + 1) ≡ blocks f salt r n ++ block f salt r (n + 1)
unfolding blocks
blocks_more f salt r n = rw add-one refl

-- more blocks begin with fewer
blocks_front : (f : List ℕ → List ℕ) (u : ℕ) (salt : List ℕ) (r i j : ℕ) → ((t : List ℕ) → length (f t) ≡ u) → take (i * u) (blocks f salt r (i + j)) ≡ blocks f salt r i
blocks_front f u salt r i zero h = rw (add-zero i) (take_all (i * u) (blocks f salt r i) (omega (arith, length-blocks f u salt r i h)))
blocks_front f u salt r i (suc j) h =
    let e : i + suc j ≡ (i + j) + 1 = omega arith in
    let long : i * u ≤ length (blocks f salt r (i + j)) = omega (arith, length-blocks f u salt r (i + j) h) in
    ap (λ n. take (i * u) (blocks f salt r n)) e
    ∙ (ap (take (i * u)) (blocks_more f salt r (i + j))
    ∙ (take-append-le (i * u) (blocks f salt r (i + j)) (block f salt r ((i + j) + 1)) long ∙ blocks_front f u salt r i j h))

pub shorter_is_prefix : ShorterIsPrefix
unfolding pbkdf2
shorter_is_prefix f u salt r m n pos h le =
    let i : ℕ = block_count m u in
    let j : ℕ = block_count n u in
    let below : i ≤ j = le-div i (n + (u - 1)) u pos (omega (arith, le, div-mul-le_self (m + (u - 1)) u)) in
    let split : j ≡ i + (j - i) = omega (arith, below) in
    let past : m ≤ i * u = enough m u pos in
    take-take m n (blocks f salt r j) le
    ∙ (ap (λ k. take m (blocks f salt r k)) split
    ∙ (sym (take-take m (i * u) (blocks f salt r (i + (j - i))) past) ∙ ap (take m) (blocks_front f u salt r i (j - i) h)))

blocks_zero_one : (f : List ℕ → List ℕ) (salt : List ℕ) (n : ℕ) → blocks f salt 0 n ≡ blocks f salt 1 n
unfolding blocks
blocks_zero_one f salt zero = refl
blocks_zero_one f salt (suc n) = ap (λ t. t ++ block f salt 1 (suc n)) (blocks_zero_one f salt n)

pub zero_is_one : ZeroIsOne
unfolding pbkdf2
zero_is_one f u salt n = ap (take n) (blocks_zero_one f salt (block_count n u))

pub has_its_length : HasItsLength
unfolding pbkdf2
has_its_length f u salt r n pos h =
    length-take-le n (blocks f salt r (block_count n u)) (omega (arith, length-blocks f u salt r (block_count n u) h, enough n u pos))
