-- The first and the last permutation of DES by octets: the entries of the two tables.
use Rattle.std.proofs.Common.{lit<, ◌≡◌, ◌∙◌, sym, ap, ap₂, ℕ, zero, suc, Bool, true, ◌+◌, ◌-◌, ◌*◌, ◌/◌, ◌%◌, ◌^◌, ◌<◌, ◌==◌, ◌&&◌, List, [], ◌∷◌, ◌++◌, length, get_or, take, drop, replicate, refl, arith, bit_xor}
use Rattle.std.specs.Int.{w32, w64, to_be_bytes}
use Rattle.std.proofs.lemmas.Bool.{and_parts, eqb-true}
use Rattle.std.proofs.lemmas.Nat.{shr_high, mod_low, xor_block, xor_mod}
use Rattle.std.proofs.lemmas.List.{append_assoc, append-nil, length-append, length-replicate, length-take-le, length-drop, take-append-drop}
use Rattle.block_core.specs.Bits.{AreBits, bits_of, bits_of_octets, octets_of_bits, number_of, number_from, pick}
use Rattle.block_core.specs.BitsLaws.{bits_append, bits_none, bits_bits_of, bits_take, bits_drop, bits_octets, bits_pick, length-pick, length-bits_of, number_of-lt}
use Rattle.block_core.specs.TableLaws.{all_below, all_below_at}
use Rattle.block_core.specs.DesTables.{initial_permutation}
use Rattle.block_core.specs.Des.{final_permutation, place_of}
use Rattle.block_core.specs.DesLaws.{length-final}
use Rattle.block_core.proofs.Groups.{octets_by_group}
use Rattle.block_core.proofs.DesParts.{bits_zeros, number_split, tree, part_step, picked_number, bits_of_number}
use Rattle.block_core.specs.declared.des_permutations.TheConstants.{SPREAD, GATHER}

-- the number of the bits that a table picks of an octet at place j of eight, and of its high and its low half
unfoldable pub octet_at : List ℕ → ℕ → ℕ → ℕ
octet_at table j v = number_of (pick table (replicate (8 * j) 0 ++ (bits_of 8 v ++ replicate (56 - 8 * j) 0)))

unfoldable high_at : List ℕ → ℕ → ℕ → ℕ
high_at table j h = number_of (pick table (replicate (8 * j) 0 ++ (bits_of 4 h ++ replicate (60 - 8 * j) 0)))

unfoldable low_at : List ℕ → ℕ → ℕ → ℕ
low_at table j l = number_of (pick table (replicate (8 * j) 0 ++ (replicate 4 0 ++ (bits_of 4 l ++ replicate (56 - 8 * j) 0))))

-- the bits of an octet, by its halves
bits_by_halves : (v : ℕ) → bits_of 4 (v / 16) ++ bits_of 4 (v % 16) ≡ bits_of 8 v
unfolding bits_of
bits_by_halves v =
    let e0 : v / 16 / 2 ^ 3 % 2 ≡ v / 2 ^ 7 % 2 = omega arith in
    let e1 : v / 16 / 2 ^ 2 % 2 ≡ v / 2 ^ 6 % 2 = omega arith in
    let e2 : v / 16 / 2 ^ 1 % 2 ≡ v / 2 ^ 5 % 2 = omega arith in
    let e3 : v / 16 / 2 ^ 0 % 2 ≡ v / 2 ^ 4 % 2 = omega arith in
    let e4 : v % 16 / 2 ^ 3 % 2 ≡ v / 2 ^ 3 % 2 = omega arith in
    let e5 : v % 16 / 2 ^ 2 % 2 ≡ v / 2 ^ 2 % 2 = omega arith in
    let e6 : v % 16 / 2 ^ 1 % 2 ≡ v / 2 ^ 1 % 2 = omega arith in
    let e7 : v % 16 / 2 ^ 0 % 2 ≡ v / 2 ^ 0 % 2 = omega arith in
    λ i. e0 i ∷ e1 i ∷ e2 i ∷ e3 i ∷ e4 i ∷ e5 i ∷ e6 i ∷ e7 i ∷ []

octet_by_halves : (table : List ℕ) (j v : ℕ) → j < 8 → octet_at table j v ≡ bit_xor (high_at table j (v / 16)) (low_at table j (v % 16))
unfolding octet_at high_at low_at
octet_by_halves table j v h =
    let high : List ℕ = bits_of 4 (v / 16) in
    let low : List ℕ = bits_of 4 (v % 16) in
    let zeros : List ℕ = replicate (56 - 8 * j) 0 in
    let rest : length (low ++ zeros) ≡ 60 - 8 * j =
    omega (arith, length-append low zeros, length-bits_of 4 (v % 16), length-replicate {A = ℕ} (56 - 8 * j) 0) in
    ap (λ (t : List ℕ). picked_number table (replicate (8 * j) 0 ++ t))
    (ap (λ (t : List ℕ). t ++ zeros) (sym (bits_by_halves v)) ∙ append_assoc high low zeros)
    ∙ part_step table (8 * j) 4 (60 - 8 * j) high (low ++ zeros) (length-bits_of 4 (v / 16)) rest
    (bits_bits_of 4 (v / 16)) (bits_append low zeros (bits_bits_of 4 (v % 16)) (bits_zeros (56 - 8 * j)))

-- whether an entry of a table is the sum of those of its halves
unfoldable is_sum : List ℕ → ℕ → Bool
is_sum entries v = get_or entries v 0 == bit_xor (get_or entries (16 * (v / 16)) 0) (get_or entries (v % 16) 0)

-- whether those of the two halves, moved, are what a table picks at place j
unfoldable are_halves : (ℕ → ℕ) → List ℕ → List ℕ → ℕ → ℕ → Bool
are_halves move entries table j h = (move (get_or entries (16 * h) 0) == high_at table j h) && (move (get_or entries h 0) == low_at table j h)

-- then each entry is
looked_up : (move : ℕ → ℕ) → ((x y : ℕ) → move (bit_xor x y) ≡ bit_xor (move x) (move y))
    → (entries table : List ℕ) (j : ℕ) → j < 8 → all_below (is_sum entries) 256 ≡ true → all_below (are_halves move entries table j) 16 ≡ true
    → (v : ℕ) → v < 256 → move (get_or entries v 0) ≡ octet_at table j v
unfolding is_sum are_halves
looked_up move linear entries table j h sums halves v lt =
    let h_lt : v / 16 < 16 = omega arith in
    let l_lt : v % 16 < 16 = omega arith in
    let high : move (get_or entries (16 * (v / 16)) 0) ≡ high_at table j (v / 16) =
    eqb-true _ _ (and_parts _ (move (get_or entries (v / 16) 0) == low_at table j (v / 16)) (all_below_at (are_halves move entries table j) 16 halves (v / 16) h_lt)).0 in
    let low : move (get_or entries (v % 16) 0) ≡ low_at table j (v % 16) =
    eqb-true _ _ (and_parts (move (get_or entries (16 * (v % 16)) 0) == high_at table j (v % 16)) _ (all_below_at (are_halves move entries table j) 16 halves (v % 16) l_lt)).1 in
    ap move (eqb-true _ _ (all_below_at (is_sum entries) 256 sums v lt))
    ∙ linear (get_or entries (16 * (v / 16)) 0) (get_or entries (v % 16) 0)
    ∙ (λ i. bit_xor (high i) (low i))
    ∙ sym (octet_by_halves table j v h)

-- a sum, moved left in a word
plus_zero : (n : ℕ) → n + 0 ≡ n
plus_zero n = omega arith

moved : (k : ℕ) → 0 < 2 ^ k → (x y : ℕ) → bit_xor x y * 2 ^ k % 2 ^ 64 ≡ bit_xor (x * 2 ^ k % 2 ^ 64) (y * 2 ^ k % 2 ^ 64)
moved k h x y =
    let sum = xor_block k x y 0 0 h h in
    ap (λ (z : ℕ). z % 2 ^ 64) (sym (plus_zero (bit_xor x y * 2 ^ k)) ∙ sym sum ∙ ap₂ bit_xor (plus_zero (x * 2 ^ k)) (plus_zero (y * 2 ^ k)))
    ∙ xor_mod (x * 2 ^ k) (y * 2 ^ k) 64

-- the inverse of the initial permutation, as it is printed
abbrev last_table : List ℕ
last_table =
    40 ∷ 8 ∷ 48 ∷ 16 ∷ 56 ∷ 24 ∷ 64 ∷ 32 ∷ 39 ∷ 7 ∷ 47 ∷ 15 ∷ 55 ∷ 23 ∷ 63 ∷ 31
    ∷ 38 ∷ 6 ∷ 46 ∷ 14 ∷ 54 ∷ 22 ∷ 62 ∷ 30 ∷ 37 ∷ 5 ∷ 45 ∷ 13 ∷ 53 ∷ 21 ∷ 61 ∷ 29
    ∷ 36 ∷ 4 ∷ 44 ∷ 12 ∷ 52 ∷ 20 ∷ 60 ∷ 28 ∷ 35 ∷ 3 ∷ 43 ∷ 11 ∷ 51 ∷ 19 ∷ 59 ∷ 27
    ∷ 34 ∷ 2 ∷ 42 ∷ 10 ∷ 50 ∷ 18 ∷ 58 ∷ 26 ∷ 33 ∷ 1 ∷ 41 ∷ 9 ∷ 49 ∷ 17 ∷ 57 ∷ 25 ∷ []

last_is : last_table ≡ final_permutation
unfolding final_permutation place_of
last_is = refl

spread_sums : all_below (is_sum SPREAD) 256 ≡ true
unfolding is_sum
spread_sums = refl

gather_sums : all_below (is_sum GATHER) 256 ≡ true
unfolding is_sum
gather_sums = refl

spread_0 : all_below (are_halves (λ x. x) SPREAD initial_permutation 0) 16 ≡ true
unfolding are_halves high_at low_at pick number_of number_from bits_of
spread_0 = refl

gather_0 : all_below (are_halves (λ x. x * 2 ^ 6 % 2 ^ 64) GATHER last_table 0) 16 ≡ true
unfolding are_halves high_at low_at pick number_of number_from bits_of
gather_0 = refl

spread_1 : all_below (are_halves (λ x. x * 2 ^ 1 % 2 ^ 64) SPREAD initial_permutation 1) 16 ≡ true
unfolding are_halves high_at low_at pick number_of number_from bits_of
spread_1 = refl

gather_1 : all_below (are_halves (λ x. x * 2 ^ 4 % 2 ^ 64) GATHER last_table 1) 16 ≡ true
unfolding are_halves high_at low_at pick number_of number_from bits_of
gather_1 = refl

spread_2 : all_below (are_halves (λ x. x * 2 ^ 2 % 2 ^ 64) SPREAD initial_permutation 2) 16 ≡ true
unfolding are_halves high_at low_at pick number_of number_from bits_of
spread_2 = refl

gather_2 : all_below (are_halves (λ x. x * 2 ^ 2 % 2 ^ 64) GATHER last_table 2) 16 ≡ true
unfolding are_halves high_at low_at pick number_of number_from bits_of
gather_2 = refl

spread_3 : all_below (are_halves (λ x. x * 2 ^ 3 % 2 ^ 64) SPREAD initial_permutation 3) 16 ≡ true
unfolding are_halves high_at low_at pick number_of number_from bits_of
spread_3 = refl

gather_3 : all_below (are_halves (λ x. x) GATHER last_table 3) 16 ≡ true
unfolding are_halves high_at low_at pick number_of number_from bits_of
gather_3 = refl

spread_4 : all_below (are_halves (λ x. x * 2 ^ 4 % 2 ^ 64) SPREAD initial_permutation 4) 16 ≡ true
unfolding are_halves high_at low_at pick number_of number_from bits_of
spread_4 = refl

gather_4 : all_below (are_halves (λ x. x * 2 ^ 7 % 2 ^ 64) GATHER last_table 4) 16 ≡ true
unfolding are_halves high_at low_at pick number_of number_from bits_of
gather_4 = refl

spread_5 : all_below (are_halves (λ x. x * 2 ^ 5 % 2 ^ 64) SPREAD initial_permutation 5) 16 ≡ true
unfolding are_halves high_at low_at pick number_of number_from bits_of
spread_5 = refl

gather_5 : all_below (are_halves (λ x. x * 2 ^ 5 % 2 ^ 64) GATHER last_table 5) 16 ≡ true
unfolding are_halves high_at low_at pick number_of number_from bits_of
gather_5 = refl

spread_6 : all_below (are_halves (λ x. x * 2 ^ 6 % 2 ^ 64) SPREAD initial_permutation 6) 16 ≡ true
unfolding are_halves high_at low_at pick number_of number_from bits_of
spread_6 = refl

gather_6 : all_below (are_halves (λ x. x * 2 ^ 3 % 2 ^ 64) GATHER last_table 6) 16 ≡ true
unfolding are_halves high_at low_at pick number_of number_from bits_of
gather_6 = refl

spread_7 : all_below (are_halves (λ x. x * 2 ^ 7 % 2 ^ 64) SPREAD initial_permutation 7) 16 ≡ true
unfolding are_halves high_at low_at pick number_of number_from bits_of
spread_7 = refl

gather_7 : all_below (are_halves (λ x. x * 2 ^ 1 % 2 ^ 64) GATHER last_table 7) 16 ≡ true
unfolding are_halves high_at low_at pick number_of number_from bits_of
gather_7 = refl

-- a sum of what a table picks of each octet
octets_sum : (table : List ℕ) (a b c d e f g h : ℕ)
    → picked_number table (bits_of_octets (a ∷ b ∷ c ∷ d ∷ e ∷ f ∷ g ∷ h ∷ []))
    ≡ bit_xor (octet_at table 0 a) (bit_xor (octet_at table 1 b) (bit_xor (octet_at table 2 c) (bit_xor (octet_at table 3 d) (bit_xor (octet_at table 4 e) (bit_xor (octet_at table 5 f) (bit_xor (octet_at table 6 g) (octet_at table 7 h)))))))
unfolding bits_of_octets octet_at
octets_sum table a b c d e f g h =
    let r7 : List ℕ = bits_of 8 h ++ [] in
    let m7 : length r7 ≡ 8 = length-append (bits_of 8 h) [] ∙ omega (arith, length-bits_of 8 h) in
    let c7 : AreBits r7 = bits_append (bits_of 8 h) [] (bits_bits_of 8 h) bits_none in
    let r6 : List ℕ = bits_of 8 g ++ r7 in
    let m6 : length r6 ≡ 16 = length-append (bits_of 8 g) r7 ∙ omega (arith, length-bits_of 8 g, m7) in
    let c6 : AreBits r6 = bits_append (bits_of 8 g) r7 (bits_bits_of 8 g) c7 in
    let r5 : List ℕ = bits_of 8 f ++ r6 in
    let m5 : length r5 ≡ 24 = length-append (bits_of 8 f) r6 ∙ omega (arith, length-bits_of 8 f, m6) in
    let c5 : AreBits r5 = bits_append (bits_of 8 f) r6 (bits_bits_of 8 f) c6 in
    let r4 : List ℕ = bits_of 8 e ++ r5 in
    let m4 : length r4 ≡ 32 = length-append (bits_of 8 e) r5 ∙ omega (arith, length-bits_of 8 e, m5) in
    let c4 : AreBits r4 = bits_append (bits_of 8 e) r5 (bits_bits_of 8 e) c5 in
    let r3 : List ℕ = bits_of 8 d ++ r4 in
    let m3 : length r3 ≡ 40 = length-append (bits_of 8 d) r4 ∙ omega (arith, length-bits_of 8 d, m4) in
    let c3 : AreBits r3 = bits_append (bits_of 8 d) r4 (bits_bits_of 8 d) c4 in
    let r2 : List ℕ = bits_of 8 c ++ r3 in
    let m2 : length r2 ≡ 48 = length-append (bits_of 8 c) r3 ∙ omega (arith, length-bits_of 8 c, m3) in
    let c2 : AreBits r2 = bits_append (bits_of 8 c) r3 (bits_bits_of 8 c) c3 in
    let r1 : List ℕ = bits_of 8 b ++ r2 in
    let m1 : length r1 ≡ 56 = length-append (bits_of 8 b) r2 ∙ omega (arith, length-bits_of 8 b, m2) in
    let c1 : AreBits r1 = bits_append (bits_of 8 b) r2 (bits_bits_of 8 b) c2 in
    let t0 = part_step table 0 8 56 (bits_of 8 a) r1 (length-bits_of 8 a) m1 (bits_bits_of 8 a) c1 in
    let t1 = part_step table 8 8 48 (bits_of 8 b) r2 (length-bits_of 8 b) m2 (bits_bits_of 8 b) c2 in
    let t2 = part_step table 16 8 40 (bits_of 8 c) r3 (length-bits_of 8 c) m3 (bits_bits_of 8 c) c3 in
    let t3 = part_step table 24 8 32 (bits_of 8 d) r4 (length-bits_of 8 d) m4 (bits_bits_of 8 d) c4 in
    let t4 = part_step table 32 8 24 (bits_of 8 e) r5 (length-bits_of 8 e) m5 (bits_bits_of 8 e) c5 in
    let t5 = part_step table 40 8 16 (bits_of 8 f) r6 (length-bits_of 8 f) m6 (bits_bits_of 8 f) c6 in
    let t6 = part_step table 48 8 8 (bits_of 8 g) r7 (length-bits_of 8 g) m7 (bits_bits_of 8 g) c7 in
    t0 ∙ ap (bit_xor (octet_at table 0 a)) (t1 ∙ ap (bit_xor (octet_at table 1 b)) (t2 ∙ ap (bit_xor (octet_at table 2 c)) (t3 ∙ ap (bit_xor (octet_at table 3 d)) (t4 ∙ ap (bit_xor (octet_at table 4 e)) (t5 ∙ ap (bit_xor (octet_at table 5 f)) (t6))))))

-- the eight look-ups of the first permutation
pub spread_is : (a b c d e f g h : ℕ) → a < 256 → b < 256 → c < 256 → d < 256 → e < 256 → f < 256 → g < 256 → h < 256
    → bit_xor (bit_xor (bit_xor (get_or SPREAD a 0) (get_or SPREAD b 0 * 2 ^ 1 % 2 ^ 64)) (bit_xor (get_or SPREAD c 0 * 2 ^ 2 % 2 ^ 64) (get_or SPREAD d 0 * 2 ^ 3 % 2 ^ 64))) (bit_xor (bit_xor (get_or SPREAD e 0 * 2 ^ 4 % 2 ^ 64) (get_or SPREAD f 0 * 2 ^ 5 % 2 ^ 64)) (bit_xor (get_or SPREAD g 0 * 2 ^ 6 % 2 ^ 64) (get_or SPREAD h 0 * 2 ^ 7 % 2 ^ 64)))
    ≡ number_of (pick initial_permutation (bits_of_octets (a ∷ b ∷ c ∷ d ∷ e ∷ f ∷ g ∷ h ∷ [])))
spread_is a b c d e f g h ha hb hc hd he hf hg hh =
    let e0 : get_or SPREAD a 0 ≡ octet_at initial_permutation 0 a = looked_up (λ x. x) (λ x y. refl) SPREAD initial_permutation 0 (lit< tt) spread_sums spread_0 a ha in
    let e1 : get_or SPREAD b 0 * 2 ^ 1 % 2 ^ 64 ≡ octet_at initial_permutation 1 b = looked_up (λ x. x * 2 ^ 1 % 2 ^ 64) (moved 1 (lit< tt)) SPREAD initial_permutation 1 (lit< tt) spread_sums spread_1 b hb in
    let e2 : get_or SPREAD c 0 * 2 ^ 2 % 2 ^ 64 ≡ octet_at initial_permutation 2 c = looked_up (λ x. x * 2 ^ 2 % 2 ^ 64) (moved 2 (lit< tt)) SPREAD initial_permutation 2 (lit< tt) spread_sums spread_2 c hc in
    let e3 : get_or SPREAD d 0 * 2 ^ 3 % 2 ^ 64 ≡ octet_at initial_permutation 3 d = looked_up (λ x. x * 2 ^ 3 % 2 ^ 64) (moved 3 (lit< tt)) SPREAD initial_permutation 3 (lit< tt) spread_sums spread_3 d hd in
    let e4 : get_or SPREAD e 0 * 2 ^ 4 % 2 ^ 64 ≡ octet_at initial_permutation 4 e = looked_up (λ x. x * 2 ^ 4 % 2 ^ 64) (moved 4 (lit< tt)) SPREAD initial_permutation 4 (lit< tt) spread_sums spread_4 e he in
    let e5 : get_or SPREAD f 0 * 2 ^ 5 % 2 ^ 64 ≡ octet_at initial_permutation 5 f = looked_up (λ x. x * 2 ^ 5 % 2 ^ 64) (moved 5 (lit< tt)) SPREAD initial_permutation 5 (lit< tt) spread_sums spread_5 f hf in
    let e6 : get_or SPREAD g 0 * 2 ^ 6 % 2 ^ 64 ≡ octet_at initial_permutation 6 g = looked_up (λ x. x * 2 ^ 6 % 2 ^ 64) (moved 6 (lit< tt)) SPREAD initial_permutation 6 (lit< tt) spread_sums spread_6 g hg in
    let e7 : get_or SPREAD h 0 * 2 ^ 7 % 2 ^ 64 ≡ octet_at initial_permutation 7 h = looked_up (λ x. x * 2 ^ 7 % 2 ^ 64) (moved 7 (lit< tt)) SPREAD initial_permutation 7 (lit< tt) spread_sums spread_7 h hh in
    (λ i. bit_xor (bit_xor (bit_xor (e0 i) (e1 i)) (bit_xor (e2 i) (e3 i))) (bit_xor (bit_xor (e4 i) (e5 i)) (bit_xor (e6 i) (e7 i))))
    ∙ tree (octet_at initial_permutation 0 a) (octet_at initial_permutation 1 b) (octet_at initial_permutation 2 c) (octet_at initial_permutation 3 d) (octet_at initial_permutation 4 e) (octet_at initial_permutation 5 f) (octet_at initial_permutation 6 g) (octet_at initial_permutation 7 h)
    ∙ sym (octets_sum initial_permutation a b c d e f g h)

-- the eight look-ups of the last permutation
pub gather_is : (a b c d e f g h : ℕ) → a < 256 → b < 256 → c < 256 → d < 256 → e < 256 → f < 256 → g < 256 → h < 256
    → bit_xor (bit_xor (bit_xor (get_or GATHER a 0 * 2 ^ 6 % 2 ^ 64) (get_or GATHER b 0 * 2 ^ 4 % 2 ^ 64)) (bit_xor (get_or GATHER c 0 * 2 ^ 2 % 2 ^ 64) (get_or GATHER d 0))) (bit_xor (bit_xor (get_or GATHER e 0 * 2 ^ 7 % 2 ^ 64) (get_or GATHER f 0 * 2 ^ 5 % 2 ^ 64)) (bit_xor (get_or GATHER g 0 * 2 ^ 3 % 2 ^ 64) (get_or GATHER h 0 * 2 ^ 1 % 2 ^ 64)))
    ≡ number_of (pick final_permutation (bits_of_octets (a ∷ b ∷ c ∷ d ∷ e ∷ f ∷ g ∷ h ∷ [])))
gather_is a b c d e f g h ha hb hc hd he hf hg hh =
    let e0 : get_or GATHER a 0 * 2 ^ 6 % 2 ^ 64 ≡ octet_at last_table 0 a = looked_up (λ x. x * 2 ^ 6 % 2 ^ 64) (moved 6 (lit< tt)) GATHER last_table 0 (lit< tt) gather_sums gather_0 a ha in
    let e1 : get_or GATHER b 0 * 2 ^ 4 % 2 ^ 64 ≡ octet_at last_table 1 b = looked_up (λ x. x * 2 ^ 4 % 2 ^ 64) (moved 4 (lit< tt)) GATHER last_table 1 (lit< tt) gather_sums gather_1 b hb in
    let e2 : get_or GATHER c 0 * 2 ^ 2 % 2 ^ 64 ≡ octet_at last_table 2 c = looked_up (λ x. x * 2 ^ 2 % 2 ^ 64) (moved 2 (lit< tt)) GATHER last_table 2 (lit< tt) gather_sums gather_2 c hc in
    let e3 : get_or GATHER d 0 ≡ octet_at last_table 3 d = looked_up (λ x. x) (λ x y. refl) GATHER last_table 3 (lit< tt) gather_sums gather_3 d hd in
    let e4 : get_or GATHER e 0 * 2 ^ 7 % 2 ^ 64 ≡ octet_at last_table 4 e = looked_up (λ x. x * 2 ^ 7 % 2 ^ 64) (moved 7 (lit< tt)) GATHER last_table 4 (lit< tt) gather_sums gather_4 e he in
    let e5 : get_or GATHER f 0 * 2 ^ 5 % 2 ^ 64 ≡ octet_at last_table 5 f = looked_up (λ x. x * 2 ^ 5 % 2 ^ 64) (moved 5 (lit< tt)) GATHER last_table 5 (lit< tt) gather_sums gather_5 f hf in
    let e6 : get_or GATHER g 0 * 2 ^ 3 % 2 ^ 64 ≡ octet_at last_table 6 g = looked_up (λ x. x * 2 ^ 3 % 2 ^ 64) (moved 3 (lit< tt)) GATHER last_table 6 (lit< tt) gather_sums gather_6 g hg in
    let e7 : get_or GATHER h 0 * 2 ^ 1 % 2 ^ 64 ≡ octet_at last_table 7 h = looked_up (λ x. x * 2 ^ 1 % 2 ^ 64) (moved 1 (lit< tt)) GATHER last_table 7 (lit< tt) gather_sums gather_7 h hh in
    (λ i. bit_xor (bit_xor (bit_xor (e0 i) (e1 i)) (bit_xor (e2 i) (e3 i))) (bit_xor (bit_xor (e4 i) (e5 i)) (bit_xor (e6 i) (e7 i))))
    ∙ tree (octet_at last_table 0 a) (octet_at last_table 1 b) (octet_at last_table 2 c) (octet_at last_table 3 d) (octet_at last_table 4 e) (octet_at last_table 5 f) (octet_at last_table 6 g) (octet_at last_table 7 h)
    ∙ sym (octets_sum last_table a b c d e f g h)
    ∙ ap (λ (t : List ℕ). picked_number t (bits_of_octets (a ∷ b ∷ c ∷ d ∷ e ∷ f ∷ g ∷ h ∷ []))) last_is

pub eight : (o : List ℕ) → length o ≡ 8
    → get_or o 0 0 ∷ get_or o 1 0 ∷ get_or o 2 0 ∷ get_or o 3 0 ∷ get_or o 4 0 ∷ get_or o 5 0 ∷ get_or o 6 0 ∷ get_or o 7 0 ∷ [] ≡ o
eight ([]) l = absurd (omega arith)
eight (a ∷ []) l = absurd (omega arith)
eight (a ∷ b ∷ []) l = absurd (omega arith)
eight (a ∷ b ∷ c ∷ []) l = absurd (omega arith)
eight (a ∷ b ∷ c ∷ d ∷ []) l = absurd (omega arith)
eight (a ∷ b ∷ c ∷ d ∷ e ∷ []) l = absurd (omega arith)
eight (a ∷ b ∷ c ∷ d ∷ e ∷ f ∷ []) l = absurd (omega arith)
eight (a ∷ b ∷ c ∷ d ∷ e ∷ f ∷ g ∷ []) l = absurd (omega arith)
eight (a ∷ b ∷ c ∷ d ∷ e ∷ f ∷ g ∷ h ∷ []) l = refl
eight (a ∷ b ∷ c ∷ d ∷ e ∷ f ∷ g ∷ h ∷ i ∷ o) l = absurd (omega arith)

number_join : (xs ys : List ℕ) (n : ℕ) → number_from n (xs ++ ys) ≡ number_from (number_from n xs) ys
unfolding number_from
number_join [] ys n = refl
number_join (x ∷ xs) ys n = number_join xs ys (2 * n + x)

number_append : (xs ys : List ℕ) → number_of (xs ++ ys) ≡ number_of xs * 2 ^ length ys + number_of ys
unfolding number_of
number_append xs ys = number_join xs ys 0 ∙ number_split ys (number_from 0 xs)

number_high : (xs ys : List ℕ) (k : ℕ) → length ys ≡ k → AreBits ys → number_of (xs ++ ys) / 2 ^ k ≡ number_of xs
number_high xs ys k l is =
    ap₂ (λ (x j : ℕ). x / 2 ^ j) (number_append xs ys) (sym l)
    ∙ shr_high (number_of xs) (length ys) (number_of ys) (number_of-lt ys (length ys) is (omega arith))

number_low : (xs ys : List ℕ) (k : ℕ) → length ys ≡ k → AreBits ys → number_of (xs ++ ys) % 2 ^ k ≡ number_of ys
number_low xs ys k l is =
    ap₂ (λ (x j : ℕ). x % 2 ^ j) (number_append xs ys) (sym l)
    ∙ mod_low (number_of xs) (length ys) (number_of ys) (number_of-lt ys (length ys) is (omega arith))

number_middle : (xs ys zs : List ℕ) (k : ℕ) → length ys ≡ 8 → length zs ≡ k → AreBits ys → AreBits zs
    → number_of (xs ++ (ys ++ zs)) / 2 ^ k % 2 ^ 8 ≡ number_of ys
number_middle xs ys zs k l m by bz =
    ap (λ (x : ℕ). x % 2 ^ 8) (ap (λ (t : List ℕ). number_of t / 2 ^ k) (sym (append_assoc xs ys zs)) ∙ number_high (xs ++ ys) zs k m bz)
    ∙ number_low xs ys 8 l by

-- the halves of a word of 64 bits
pub high_half : (bs : List ℕ) → length bs ≡ 64 → AreBits bs → bits_of 32 (number_of bs / 2 ^ 32) ≡ take 32 bs
high_half bs l is =
    let lr : length (drop 32 bs) ≡ 32 = length-drop 32 bs ∙ omega (arith, l) in
    ap (λ (t : List ℕ). bits_of 32 (number_of t / 2 ^ 32)) (sym (take-append-drop 32 bs))
    ∙ ap (bits_of 32) (number_high (take 32 bs) (drop 32 bs) 32 lr (bits_drop 32 bs is))
    ∙ bits_of_number 32 (take 32 bs) (length-take-le 32 bs (omega (arith, l))) (bits_take 32 bs is)

pub low_half : (bs : List ℕ) → length bs ≡ 64 → AreBits bs → bits_of 32 (number_of bs % 2 ^ 32) ≡ drop 32 bs
low_half bs l is =
    let lr : length (drop 32 bs) ≡ 32 = length-drop 32 bs ∙ omega (arith, l) in
    ap (λ (t : List ℕ). bits_of 32 (number_of t % 2 ^ 32)) (sym (take-append-drop 32 bs))
    ∙ ap (bits_of 32) (number_low (take 32 bs) (drop 32 bs) 32 lr (bits_drop 32 bs is))
    ∙ bits_of_number 32 (drop 32 bs) lr (bits_drop 32 bs is)

-- the octets of a word of 64 bits
octet_of : (bs : List ℕ) → length bs ≡ 64 → AreBits bs → (k : ℕ) → k < 8 → number_of bs / 2 ^ (56 - 8 * k) % 2 ^ 8 ≡ number_of (take 8 (drop (8 * k) bs))
octet_of bs l is k h =
    let rest : List ℕ = drop (8 * k) bs in
    let lr : length rest ≡ 64 - 8 * k = length-drop (8 * k) bs ∙ omega (arith, l) in
    let br : AreBits rest = bits_drop (8 * k) bs is in
    let ll : length (drop 8 rest) ≡ 56 - 8 * k = length-drop 8 rest ∙ omega (arith, lr) in
    let parts : take (8 * k) bs ++ (take 8 rest ++ drop 8 rest) ≡ bs =
    ap (λ (t : List ℕ). take (8 * k) bs ++ t) (take-append-drop 8 rest) ∙ take-append-drop (8 * k) bs in
    ap (λ (t : List ℕ). number_of t / 2 ^ (56 - 8 * k) % 2 ^ 8) (sym parts)
    ∙ number_middle (take (8 * k) bs) (take 8 rest) (drop 8 rest) (56 - 8 * k) (length-take-le 8 rest (omega (arith, lr))) ll (bits_take 8 rest br) (bits_drop 8 rest br)

octets_at : (bs : List ℕ) → length bs ≡ 64 → AreBits bs → (k : ℕ) → k < 8 → get_or (to_be_bytes w64 (number_of bs)) k 0 ≡ number_of (take 8 (drop (8 * k) bs))
octets_at bs l is zero h = octet_of bs l is 0 h
octets_at bs l is (suc zero) h = octet_of bs l is 1 h
octets_at bs l is (suc (suc zero)) h = octet_of bs l is 2 h
octets_at bs l is (suc (suc (suc zero))) h = octet_of bs l is 3 h
octets_at bs l is (suc (suc (suc (suc zero)))) h = octet_of bs l is 4 h
octets_at bs l is (suc (suc (suc (suc (suc zero))))) h = octet_of bs l is 5 h
octets_at bs l is (suc (suc (suc (suc (suc (suc zero)))))) h = octet_of bs l is 6 h
octets_at bs l is (suc (suc (suc (suc (suc (suc (suc zero))))))) h = let n : ℕ = number_of bs in let e : n % 256 ≡ n / 2 ^ 0 % 2 ^ 8 = omega arith in e ∙ octet_of bs l is 7 h
octets_at bs l is (suc (suc (suc (suc (suc (suc (suc (suc k)))))))) h = absurd (omega arith)

pub octets_of_number : (bs : List ℕ) → length bs ≡ 64 → AreBits bs → to_be_bytes w64 (number_of bs) ≡ octets_of_bits 8 bs
octets_of_number bs l is = octets_by_group 8 (to_be_bytes w64 (number_of bs)) bs refl (octets_at bs l is)

-- the bits of a word, by its octets
pub word_bits : (x : ℕ) → bits_of 8 (x / 2 ^ 24 % 256) ++ (bits_of 8 (x / 2 ^ 16 % 256) ++ (bits_of 8 (x / 2 ^ 8 % 256) ++ bits_of 8 (x % 256))) ≡ bits_of 32 x
unfolding bits_of
word_bits x =
    let e0 : x / 2 ^ 24 % 256 / 2 ^ 7 % 2 ≡ x / 2 ^ 31 % 2 = omega arith in
    let e1 : x / 2 ^ 24 % 256 / 2 ^ 6 % 2 ≡ x / 2 ^ 30 % 2 = omega arith in
    let e2 : x / 2 ^ 24 % 256 / 2 ^ 5 % 2 ≡ x / 2 ^ 29 % 2 = omega arith in
    let e3 : x / 2 ^ 24 % 256 / 2 ^ 4 % 2 ≡ x / 2 ^ 28 % 2 = omega arith in
    let e4 : x / 2 ^ 24 % 256 / 2 ^ 3 % 2 ≡ x / 2 ^ 27 % 2 = omega arith in
    let e5 : x / 2 ^ 24 % 256 / 2 ^ 2 % 2 ≡ x / 2 ^ 26 % 2 = omega arith in
    let e6 : x / 2 ^ 24 % 256 / 2 ^ 1 % 2 ≡ x / 2 ^ 25 % 2 = omega arith in
    let e7 : x / 2 ^ 24 % 256 / 2 ^ 0 % 2 ≡ x / 2 ^ 24 % 2 = omega arith in
    let e8 : x / 2 ^ 16 % 256 / 2 ^ 7 % 2 ≡ x / 2 ^ 23 % 2 = omega arith in
    let e9 : x / 2 ^ 16 % 256 / 2 ^ 6 % 2 ≡ x / 2 ^ 22 % 2 = omega arith in
    let e10 : x / 2 ^ 16 % 256 / 2 ^ 5 % 2 ≡ x / 2 ^ 21 % 2 = omega arith in
    let e11 : x / 2 ^ 16 % 256 / 2 ^ 4 % 2 ≡ x / 2 ^ 20 % 2 = omega arith in
    let e12 : x / 2 ^ 16 % 256 / 2 ^ 3 % 2 ≡ x / 2 ^ 19 % 2 = omega arith in
    let e13 : x / 2 ^ 16 % 256 / 2 ^ 2 % 2 ≡ x / 2 ^ 18 % 2 = omega arith in
    let e14 : x / 2 ^ 16 % 256 / 2 ^ 1 % 2 ≡ x / 2 ^ 17 % 2 = omega arith in
    let e15 : x / 2 ^ 16 % 256 / 2 ^ 0 % 2 ≡ x / 2 ^ 16 % 2 = omega arith in
    let e16 : x / 2 ^ 8 % 256 / 2 ^ 7 % 2 ≡ x / 2 ^ 15 % 2 = omega arith in
    let e17 : x / 2 ^ 8 % 256 / 2 ^ 6 % 2 ≡ x / 2 ^ 14 % 2 = omega arith in
    let e18 : x / 2 ^ 8 % 256 / 2 ^ 5 % 2 ≡ x / 2 ^ 13 % 2 = omega arith in
    let e19 : x / 2 ^ 8 % 256 / 2 ^ 4 % 2 ≡ x / 2 ^ 12 % 2 = omega arith in
    let e20 : x / 2 ^ 8 % 256 / 2 ^ 3 % 2 ≡ x / 2 ^ 11 % 2 = omega arith in
    let e21 : x / 2 ^ 8 % 256 / 2 ^ 2 % 2 ≡ x / 2 ^ 10 % 2 = omega arith in
    let e22 : x / 2 ^ 8 % 256 / 2 ^ 1 % 2 ≡ x / 2 ^ 9 % 2 = omega arith in
    let e23 : x / 2 ^ 8 % 256 / 2 ^ 0 % 2 ≡ x / 2 ^ 8 % 2 = omega arith in
    let e24 : x % 256 / 2 ^ 7 % 2 ≡ x / 2 ^ 7 % 2 = omega arith in
    let e25 : x % 256 / 2 ^ 6 % 2 ≡ x / 2 ^ 6 % 2 = omega arith in
    let e26 : x % 256 / 2 ^ 5 % 2 ≡ x / 2 ^ 5 % 2 = omega arith in
    let e27 : x % 256 / 2 ^ 4 % 2 ≡ x / 2 ^ 4 % 2 = omega arith in
    let e28 : x % 256 / 2 ^ 3 % 2 ≡ x / 2 ^ 3 % 2 = omega arith in
    let e29 : x % 256 / 2 ^ 2 % 2 ≡ x / 2 ^ 2 % 2 = omega arith in
    let e30 : x % 256 / 2 ^ 1 % 2 ≡ x / 2 ^ 1 % 2 = omega arith in
    let e31 : x % 256 / 2 ^ 0 % 2 ≡ x / 2 ^ 0 % 2 = omega arith in
    λ i. e0 i ∷ e1 i ∷ e2 i ∷ e3 i ∷ e4 i ∷ e5 i ∷ e6 i ∷ e7 i ∷ e8 i ∷ e9 i ∷ e10 i ∷ e11 i ∷ e12 i ∷ e13 i ∷ e14 i ∷ e15 i ∷ e16 i ∷ e17 i ∷ e18 i ∷ e19 i ∷ e20 i ∷ e21 i ∷ e22 i ∷ e23 i ∷ e24 i ∷ e25 i ∷ e26 i ∷ e27 i ∷ e28 i ∷ e29 i ∷ e30 i ∷ e31 i ∷ []

-- what the first permutation gives, and what the last takes
pub initial_long : (o : List ℕ) → length (pick initial_permutation (bits_of_octets o)) ≡ 64
initial_long o = length-pick initial_permutation (bits_of_octets o)

pub initial_bits : (o : List ℕ) → AreBits (pick initial_permutation (bits_of_octets o))
initial_bits o = bits_pick initial_permutation (bits_of_octets o) (bits_octets o)

pub final_long : (bs : List ℕ) → length (pick final_permutation bs) ≡ 64
final_long bs = length-pick final_permutation bs ∙ length-final

-- the last permutation of two words
pub gather_words : (first second : ℕ) (p q : List ℕ) → p ≡ to_be_bytes w32 first → q ≡ to_be_bytes w32 second
    → bit_xor (bit_xor (bit_xor (get_or GATHER (get_or p 0 0) 0 * 2 ^ 6 % 2 ^ 64) (get_or GATHER (get_or p 1 0) 0 * 2 ^ 4 % 2 ^ 64)) (bit_xor (get_or GATHER (get_or p 2 0) 0 * 2 ^ 2 % 2 ^ 64) (get_or GATHER (get_or p 3 0) 0))) (bit_xor (bit_xor (get_or GATHER (get_or q 0 0) 0 * 2 ^ 7 % 2 ^ 64) (get_or GATHER (get_or q 1 0) 0 * 2 ^ 5 % 2 ^ 64)) (bit_xor (get_or GATHER (get_or q 2 0) 0 * 2 ^ 3 % 2 ^ 64) (get_or GATHER (get_or q 3 0) 0 * 2 ^ 1 % 2 ^ 64)))
    ≡ number_of (pick final_permutation (bits_of 32 first ++ bits_of 32 second))
unfolding bits_of_octets
gather_words first second p q ep eq =
    let both : bit_xor (bit_xor (bit_xor (get_or GATHER (first / 2 ^ 24 % 256) 0 * 2 ^ 6 % 2 ^ 64) (get_or GATHER (first / 2 ^ 16 % 256) 0 * 2 ^ 4 % 2 ^ 64)) (bit_xor (get_or GATHER (first / 2 ^ 8 % 256) 0 * 2 ^ 2 % 2 ^ 64) (get_or GATHER (first % 256) 0))) (bit_xor (bit_xor (get_or GATHER (second / 2 ^ 24 % 256) 0 * 2 ^ 7 % 2 ^ 64) (get_or GATHER (second / 2 ^ 16 % 256) 0 * 2 ^ 5 % 2 ^ 64)) (bit_xor (get_or GATHER (second / 2 ^ 8 % 256) 0 * 2 ^ 3 % 2 ^ 64) (get_or GATHER (second % 256) 0 * 2 ^ 1 % 2 ^ 64))) ≡ number_of (pick final_permutation (bits_of_octets ((first / 2 ^ 24 % 256) ∷ (first / 2 ^ 16 % 256) ∷ (first / 2 ^ 8 % 256) ∷ (first % 256) ∷ (second / 2 ^ 24 % 256) ∷ (second / 2 ^ 16 % 256) ∷ (second / 2 ^ 8 % 256) ∷ (second % 256) ∷ []))) =
    gather_is (first / 2 ^ 24 % 256) (first / 2 ^ 16 % 256) (first / 2 ^ 8 % 256) (first % 256) (second / 2 ^ 24 % 256) (second / 2 ^ 16 % 256) (second / 2 ^ 8 % 256) (second % 256) (omega arith) (omega arith) (omega arith) (omega arith) (omega arith) (omega arith) (omega arith) (omega arith) in
    let f1 : List ℕ = bits_of 8 (first / 2 ^ 24 % 256) in
    let f2 : List ℕ = bits_of 8 (first / 2 ^ 16 % 256) in
    let f3 : List ℕ = bits_of 8 (first / 2 ^ 8 % 256) in
    let f4 : List ℕ = bits_of 8 (first % 256) in
    let rest : List ℕ = bits_of_octets ((second / 2 ^ 24 % 256) ∷ (second / 2 ^ 16 % 256) ∷ (second / 2 ^ 8 % 256) ∷ (second % 256) ∷ []) in
    let shape : f1 ++ (f2 ++ (f3 ++ (f4 ++ rest))) ≡ (f1 ++ (f2 ++ (f3 ++ f4))) ++ rest =
    ap (λ (t : List ℕ). f1 ++ t) (ap (λ (t : List ℕ). f2 ++ t) (sym (append_assoc f3 f4 rest)) ∙ sym (append_assoc f2 (f3 ++ f4) rest)) ∙ sym (append_assoc f1 (f2 ++ (f3 ++ f4)) rest) in
    let tail : rest ≡ bits_of 32 second =
    ap (λ (t : List ℕ). bits_of 8 (second / 2 ^ 24 % 256) ++ (bits_of 8 (second / 2 ^ 16 % 256) ++ (bits_of 8 (second / 2 ^ 8 % 256) ++ t))) (append-nil (bits_of 8 (second % 256))) ∙ word_bits second in
    ap₂ (λ (p q : List ℕ). bit_xor (bit_xor (bit_xor (get_or GATHER (get_or p 0 0) 0 * 2 ^ 6 % 2 ^ 64) (get_or GATHER (get_or p 1 0) 0 * 2 ^ 4 % 2 ^ 64)) (bit_xor (get_or GATHER (get_or p 2 0) 0 * 2 ^ 2 % 2 ^ 64) (get_or GATHER (get_or p 3 0) 0))) (bit_xor (bit_xor (get_or GATHER (get_or q 0 0) 0 * 2 ^ 7 % 2 ^ 64) (get_or GATHER (get_or q 1 0) 0 * 2 ^ 5 % 2 ^ 64)) (bit_xor (get_or GATHER (get_or q 2 0) 0 * 2 ^ 3 % 2 ^ 64) (get_or GATHER (get_or q 3 0) 0 * 2 ^ 1 % 2 ^ 64)))) ep eq
    ∙ both
    ∙ ap (λ (t : List ℕ). number_of (pick final_permutation t)) (shape ∙ ap₂ (λ (s t : List ℕ). s ++ t) (word_bits first) tail)
