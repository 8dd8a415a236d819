-- Rounds on words.
use Rattle.std.proofs.Common.{◌≡◌, ◌∙◌, ◌+◌, ◌*◌, ◌<◌, ℕ, List, [], ◌∷◌, ◌++◌, get_or, bit_xor, arith}
use Rattle.std.specs.Prelude.{map}
use Rattle.std.specs.Int.{w32, to_be_bytes}
use Rattle.block_core.specs.AesKey.{AreOctets}
use Rattle.block_core.specs.Sbox.{sub_byte, inv_sub_byte}
use Rattle.block_core.specs.SboxLaws.{sub_facts_at}
use Rattle.block_core.specs.AesRounds.{times_circulant, add_round_key, mix_columns, shift_rows, sub_bytes, inv_mix_columns, inv_shift_rows, inv_sub_bytes}
use Rattle.block_core.specs.AesWords.{word, mixed_word, octets_of, key_column}
use Rattle.block_core.specs.AesWordsLaws.{column_octets, xored_octets}

-- octet r of a word
abbrev pub at : ℕ → ℕ → ℕ
at x r = get_or (to_be_bytes w32 x) r 0

pub at0 : (x : ℕ) → at x 0 < 256
at0 x = omega arith

pub at1 : (x : ℕ) → at x 1 < 256
at1 x = omega arith

pub at2 : (x : ℕ) → at x 2 < 256
at2 x = omega arith

pub at3 : (x : ℕ) → at x 3 < 256
at3 x = omega arith

-- the octets of one column of a round
column_and_key : (p q r s x y e f g h : ℕ) → p < 256 → q < 256 → r < 256 → s < 256 → e < 256 → f < 256 → g < 256 → h < 256
    → x ≡ mixed_word 2 3 1 1 (map sub_byte (p ∷ q ∷ r ∷ s ∷ [])) → y ≡ word e f g h
    → (let m = times_circulant 2 3 1 1 (λ j. get_or (map sub_byte (p ∷ q ∷ r ∷ s ∷ [])) j 0) in
    to_be_bytes w32 (bit_xor x y) ≡ bit_xor (m 0) e ∷ bit_xor (m 1) f ∷ bit_xor (m 2) g ∷ bit_xor (m 3) h ∷ [])
column_and_key p q r s x y e f g h hp hq hr hs he hf hg hh ex ey =
    (λ i. to_be_bytes w32 (bit_xor (ex i) (ey i)))
    ∙ column_octets 2 3 1 1 (sub_byte p) (sub_byte q) (sub_byte r) (sub_byte s) e f g h
    (sub_facts_at p hp).2 (sub_facts_at q hq).2 (sub_facts_at r hr).2 (sub_facts_at s hs).2 he hf hg hh

-- the octets of one column of a round
inv_column_and_key : (p q r s x y e f g h : ℕ) → p < 256 → q < 256 → r < 256 → s < 256 → e < 256 → f < 256 → g < 256 → h < 256
    → x ≡ mixed_word 14 11 13 9 (map inv_sub_byte (p ∷ q ∷ r ∷ s ∷ [])) → y ≡ word e f g h
    → (let m = times_circulant 14 11 13 9 (λ j. get_or (map inv_sub_byte (p ∷ q ∷ r ∷ s ∷ [])) j 0) in
    to_be_bytes w32 (bit_xor x y) ≡ bit_xor (m 0) e ∷ bit_xor (m 1) f ∷ bit_xor (m 2) g ∷ bit_xor (m 3) h ∷ [])
inv_column_and_key p q r s x y e f g h hp hq hr hs he hf hg hh ex ey =
    (λ i. to_be_bytes w32 (bit_xor (ex i) (ey i)))
    ∙ column_octets 14 11 13 9 (inv_sub_byte p) (inv_sub_byte q) (inv_sub_byte r) (inv_sub_byte s) e f g h
    (sub_facts_at p hp).3 (sub_facts_at q hq).3 (sub_facts_at r hr).3 (sub_facts_at s hs).3 he hf hg hh

-- the octets of one column of a round without InvMixColumns or MixColumns
last_and_key : (p q r s x y e f g h : ℕ) → p < 256 → q < 256 → r < 256 → s < 256 → e < 256 → f < 256 → g < 256 → h < 256
    → x ≡ word (sub_byte p) (sub_byte q) (sub_byte r) (sub_byte s) → y ≡ word e f g h
    → to_be_bytes w32 (bit_xor x y) ≡ bit_xor (sub_byte p) e ∷ bit_xor (sub_byte q) f ∷ bit_xor (sub_byte r) g ∷ bit_xor (sub_byte s) h ∷ []
last_and_key p q r s x y e f g h hp hq hr hs he hf hg hh ex ey =
    (λ i. to_be_bytes w32 (bit_xor (ex i) (ey i)))
    ∙ xored_octets (sub_byte p) (sub_byte q) (sub_byte r) (sub_byte s) e f g h
    (sub_facts_at p hp).2 (sub_facts_at q hq).2 (sub_facts_at r hr).2 (sub_facts_at s hs).2 he hf hg hh

-- the octets of one column of a round without InvMixColumns or MixColumns
inv_last_and_key : (p q r s x y e f g h : ℕ) → p < 256 → q < 256 → r < 256 → s < 256 → e < 256 → f < 256 → g < 256 → h < 256
    → x ≡ word (inv_sub_byte p) (inv_sub_byte q) (inv_sub_byte r) (inv_sub_byte s) → y ≡ word e f g h
    → to_be_bytes w32 (bit_xor x y) ≡ bit_xor (inv_sub_byte p) e ∷ bit_xor (inv_sub_byte q) f ∷ bit_xor (inv_sub_byte r) g ∷ bit_xor (inv_sub_byte s) h ∷ []
inv_last_and_key p q r s x y e f g h hp hq hr hs he hf hg hh ex ey =
    (λ i. to_be_bytes w32 (bit_xor (ex i) (ey i)))
    ∙ xored_octets (inv_sub_byte p) (inv_sub_byte q) (inv_sub_byte r) (inv_sub_byte s) e f g h
    (sub_facts_at p hp).3 (sub_facts_at q hq).3 (sub_facts_at r hr).3 (sub_facts_at s hs).3 he hf hg hh

pub round_is : (w keys : List ℕ) (n : ℕ) (a b c d : List ℕ) (x0 x1 x2 x3 y0 y1 y2 y3 : ℕ) → AreOctets keys
    → a ≡ to_be_bytes w32 (get_or w 0 0) → b ≡ to_be_bytes w32 (get_or w 1 0) → c ≡ to_be_bytes w32 (get_or w 2 0) → d ≡ to_be_bytes w32 (get_or w 3 0)
    → x0 ≡ mixed_word 2 3 1 1 (map sub_byte ((get_or a 0 0) ∷ (get_or b 1 0) ∷ (get_or c 2 0) ∷ (get_or d 3 0) ∷ []))
    → x1 ≡ mixed_word 2 3 1 1 (map sub_byte ((get_or b 0 0) ∷ (get_or c 1 0) ∷ (get_or d 2 0) ∷ (get_or a 3 0) ∷ []))
    → x2 ≡ mixed_word 2 3 1 1 (map sub_byte ((get_or c 0 0) ∷ (get_or d 1 0) ∷ (get_or a 2 0) ∷ (get_or b 3 0) ∷ []))
    → x3 ≡ mixed_word 2 3 1 1 (map sub_byte ((get_or d 0 0) ∷ (get_or a 1 0) ∷ (get_or b 2 0) ∷ (get_or c 3 0) ∷ []))
    → y0 ≡ key_column keys n 0 → y1 ≡ key_column keys n 1 → y2 ≡ key_column keys n 2 → y3 ≡ key_column keys n 3
    → octets_of (bit_xor x0 y0 ∷ bit_xor x1 y1 ∷ bit_xor x2 y2 ∷ bit_xor x3 y3 ∷ []) ≡ add_round_key keys n (mix_columns (shift_rows (sub_bytes (octets_of w))))
unfolding add_round_key mix_columns shift_rows sub_bytes times_circulant
round_is w keys n a b c d x0 x1 x2 x3 y0 y1 y2 y3 ks ea eb ec ed e0 e1 e2 e3 f0 f1 f2 f3 =
    let w0 = get_or w 0 0 in
    let w1 = get_or w 1 0 in
    let w2 = get_or w 2 0 in
    let w3 = get_or w 3 0 in
    let k : (j : ℕ) → get_or keys (16 * n + j) 0 < 256 = λ (j : ℕ). ks (16 * n + j) in
    let g0 = column_and_key (at w0 0) (at w1 1) (at w2 2) (at w3 3) x0 y0 _ _ _ _ (at0 w0) (at1 w1) (at2 w2) (at3 w3) (k 0) (k 1) (k 2) (k 3)
    (e0 ∙ (λ i. mixed_word 2 3 1 1 (map sub_byte ((get_or (ea i) 0 0) ∷ (get_or (eb i) 1 0) ∷ (get_or (ec i) 2 0) ∷ (get_or (ed i) 3 0) ∷ [])))) f0 in
    let g1 = column_and_key (at w1 0) (at w2 1) (at w3 2) (at w0 3) x1 y1 _ _ _ _ (at0 w1) (at1 w2) (at2 w3) (at3 w0) (k 4) (k 5) (k 6) (k 7)
    (e1 ∙ (λ i. mixed_word 2 3 1 1 (map sub_byte ((get_or (eb i) 0 0) ∷ (get_or (ec i) 1 0) ∷ (get_or (ed i) 2 0) ∷ (get_or (ea i) 3 0) ∷ [])))) f1 in
    let g2 = column_and_key (at w2 0) (at w3 1) (at w0 2) (at w1 3) x2 y2 _ _ _ _ (at0 w2) (at1 w3) (at2 w0) (at3 w1) (k 8) (k 9) (k 10) (k 11)
    (e2 ∙ (λ i. mixed_word 2 3 1 1 (map sub_byte ((get_or (ec i) 0 0) ∷ (get_or (ed i) 1 0) ∷ (get_or (ea i) 2 0) ∷ (get_or (eb i) 3 0) ∷ [])))) f2 in
    let g3 = column_and_key (at w3 0) (at w0 1) (at w1 2) (at w2 3) x3 y3 _ _ _ _ (at0 w3) (at1 w0) (at2 w1) (at3 w2) (k 12) (k 13) (k 14) (k 15)
    (e3 ∙ (λ i. mixed_word 2 3 1 1 (map sub_byte ((get_or (ed i) 0 0) ∷ (get_or (ea i) 1 0) ∷ (get_or (eb i) 2 0) ∷ (get_or (ec i) 3 0) ∷ [])))) f3 in
    λ i. g0 i ++ (g1 i ++ (g2 i ++ g3 i))

pub last_round_is : (w keys : List ℕ) (n : ℕ) (a b c d : List ℕ) (x0 x1 x2 x3 y0 y1 y2 y3 : ℕ) → AreOctets keys
    → a ≡ to_be_bytes w32 (get_or w 0 0) → b ≡ to_be_bytes w32 (get_or w 1 0) → c ≡ to_be_bytes w32 (get_or w 2 0) → d ≡ to_be_bytes w32 (get_or w 3 0)
    → x0 ≡ word (sub_byte (get_or a 0 0)) (sub_byte (get_or b 1 0)) (sub_byte (get_or c 2 0)) (sub_byte (get_or d 3 0))
    → x1 ≡ word (sub_byte (get_or b 0 0)) (sub_byte (get_or c 1 0)) (sub_byte (get_or d 2 0)) (sub_byte (get_or a 3 0))
    → x2 ≡ word (sub_byte (get_or c 0 0)) (sub_byte (get_or d 1 0)) (sub_byte (get_or a 2 0)) (sub_byte (get_or b 3 0))
    → x3 ≡ word (sub_byte (get_or d 0 0)) (sub_byte (get_or a 1 0)) (sub_byte (get_or b 2 0)) (sub_byte (get_or c 3 0))
    → y0 ≡ key_column keys n 0 → y1 ≡ key_column keys n 1 → y2 ≡ key_column keys n 2 → y3 ≡ key_column keys n 3
    → octets_of (bit_xor x0 y0 ∷ bit_xor x1 y1 ∷ bit_xor x2 y2 ∷ bit_xor x3 y3 ∷ []) ≡ add_round_key keys n (shift_rows (sub_bytes (octets_of w)))
unfolding add_round_key shift_rows sub_bytes
last_round_is w keys n a b c d x0 x1 x2 x3 y0 y1 y2 y3 ks ea eb ec ed e0 e1 e2 e3 f0 f1 f2 f3 =
    let w0 = get_or w 0 0 in
    let w1 = get_or w 1 0 in
    let w2 = get_or w 2 0 in
    let w3 = get_or w 3 0 in
    let k : (j : ℕ) → get_or keys (16 * n + j) 0 < 256 = λ (j : ℕ). ks (16 * n + j) in
    let g0 = last_and_key (at w0 0) (at w1 1) (at w2 2) (at w3 3) x0 y0 _ _ _ _ (at0 w0) (at1 w1) (at2 w2) (at3 w3) (k 0) (k 1) (k 2) (k 3)
    (e0 ∙ (λ i. word (sub_byte (get_or (ea i) 0 0)) (sub_byte (get_or (eb i) 1 0)) (sub_byte (get_or (ec i) 2 0)) (sub_byte (get_or (ed i) 3 0)))) f0 in
    let g1 = last_and_key (at w1 0) (at w2 1) (at w3 2) (at w0 3) x1 y1 _ _ _ _ (at0 w1) (at1 w2) (at2 w3) (at3 w0) (k 4) (k 5) (k 6) (k 7)
    (e1 ∙ (λ i. word (sub_byte (get_or (eb i) 0 0)) (sub_byte (get_or (ec i) 1 0)) (sub_byte (get_or (ed i) 2 0)) (sub_byte (get_or (ea i) 3 0)))) f1 in
    let g2 = last_and_key (at w2 0) (at w3 1) (at w0 2) (at w1 3) x2 y2 _ _ _ _ (at0 w2) (at1 w3) (at2 w0) (at3 w1) (k 8) (k 9) (k 10) (k 11)
    (e2 ∙ (λ i. word (sub_byte (get_or (ec i) 0 0)) (sub_byte (get_or (ed i) 1 0)) (sub_byte (get_or (ea i) 2 0)) (sub_byte (get_or (eb i) 3 0)))) f2 in
    let g3 = last_and_key (at w3 0) (at w0 1) (at w1 2) (at w2 3) x3 y3 _ _ _ _ (at0 w3) (at1 w0) (at2 w1) (at3 w2) (k 12) (k 13) (k 14) (k 15)
    (e3 ∙ (λ i. word (sub_byte (get_or (ed i) 0 0)) (sub_byte (get_or (ea i) 1 0)) (sub_byte (get_or (eb i) 2 0)) (sub_byte (get_or (ec i) 3 0)))) f3 in
    λ i. g0 i ++ (g1 i ++ (g2 i ++ g3 i))

pub inv_round_is : (w keys : List ℕ) (n : ℕ) (a b c d : List ℕ) (x0 x1 x2 x3 y0 y1 y2 y3 : ℕ) → AreOctets keys
    → a ≡ to_be_bytes w32 (get_or w 0 0) → b ≡ to_be_bytes w32 (get_or w 1 0) → c ≡ to_be_bytes w32 (get_or w 2 0) → d ≡ to_be_bytes w32 (get_or w 3 0)
    → x0 ≡ mixed_word 14 11 13 9 (map inv_sub_byte ((get_or a 0 0) ∷ (get_or d 1 0) ∷ (get_or c 2 0) ∷ (get_or b 3 0) ∷ []))
    → x1 ≡ mixed_word 14 11 13 9 (map inv_sub_byte ((get_or b 0 0) ∷ (get_or a 1 0) ∷ (get_or d 2 0) ∷ (get_or c 3 0) ∷ []))
    → x2 ≡ mixed_word 14 11 13 9 (map inv_sub_byte ((get_or c 0 0) ∷ (get_or b 1 0) ∷ (get_or a 2 0) ∷ (get_or d 3 0) ∷ []))
    → x3 ≡ mixed_word 14 11 13 9 (map inv_sub_byte ((get_or d 0 0) ∷ (get_or c 1 0) ∷ (get_or b 2 0) ∷ (get_or a 3 0) ∷ []))
    → y0 ≡ key_column keys n 0 → y1 ≡ key_column keys n 1 → y2 ≡ key_column keys n 2 → y3 ≡ key_column keys n 3
    → octets_of (bit_xor x0 y0 ∷ bit_xor x1 y1 ∷ bit_xor x2 y2 ∷ bit_xor x3 y3 ∷ []) ≡ add_round_key keys n (inv_mix_columns (inv_sub_bytes (inv_shift_rows (octets_of w))))
unfolding add_round_key inv_mix_columns inv_shift_rows inv_sub_bytes times_circulant
inv_round_is w keys n a b c d x0 x1 x2 x3 y0 y1 y2 y3 ks ea eb ec ed e0 e1 e2 e3 f0 f1 f2 f3 =
    let w0 = get_or w 0 0 in
    let w1 = get_or w 1 0 in
    let w2 = get_or w 2 0 in
    let w3 = get_or w 3 0 in
    let k : (j : ℕ) → get_or keys (16 * n + j) 0 < 256 = λ (j : ℕ). ks (16 * n + j) in
    let g0 = inv_column_and_key (at w0 0) (at w3 1) (at w2 2) (at w1 3) x0 y0 _ _ _ _ (at0 w0) (at1 w3) (at2 w2) (at3 w1) (k 0) (k 1) (k 2) (k 3)
    (e0 ∙ (λ i. mixed_word 14 11 13 9 (map inv_sub_byte ((get_or (ea i) 0 0) ∷ (get_or (ed i) 1 0) ∷ (get_or (ec i) 2 0) ∷ (get_or (eb i) 3 0) ∷ [])))) f0 in
    let g1 = inv_column_and_key (at w1 0) (at w0 1) (at w3 2) (at w2 3) x1 y1 _ _ _ _ (at0 w1) (at1 w0) (at2 w3) (at3 w2) (k 4) (k 5) (k 6) (k 7)
    (e1 ∙ (λ i. mixed_word 14 11 13 9 (map inv_sub_byte ((get_or (eb i) 0 0) ∷ (get_or (ea i) 1 0) ∷ (get_or (ed i) 2 0) ∷ (get_or (ec i) 3 0) ∷ [])))) f1 in
    let g2 = inv_column_and_key (at w2 0) (at w1 1) (at w0 2) (at w3 3) x2 y2 _ _ _ _ (at0 w2) (at1 w1) (at2 w0) (at3 w3) (k 8) (k 9) (k 10) (k 11)
    (e2 ∙ (λ i. mixed_word 14 11 13 9 (map inv_sub_byte ((get_or (ec i) 0 0) ∷ (get_or (eb i) 1 0) ∷ (get_or (ea i) 2 0) ∷ (get_or (ed i) 3 0) ∷ [])))) f2 in
    let g3 = inv_column_and_key (at w3 0) (at w2 1) (at w1 2) (at w0 3) x3 y3 _ _ _ _ (at0 w3) (at1 w2) (at2 w1) (at3 w0) (k 12) (k 13) (k 14) (k 15)
    (e3 ∙ (λ i. mixed_word 14 11 13 9 (map inv_sub_byte ((get_or (ed i) 0 0) ∷ (get_or (ec i) 1 0) ∷ (get_or (eb i) 2 0) ∷ (get_or (ea i) 3 0) ∷ [])))) f3 in
    λ i. g0 i ++ (g1 i ++ (g2 i ++ g3 i))

pub inv_last_round_is : (w keys : List ℕ) (n : ℕ) (a b c d : List ℕ) (x0 x1 x2 x3 y0 y1 y2 y3 : ℕ) → AreOctets keys
    → a ≡ to_be_bytes w32 (get_or w 0 0) → b ≡ to_be_bytes w32 (get_or w 1 0) → c ≡ to_be_bytes w32 (get_or w 2 0) → d ≡ to_be_bytes w32 (get_or w 3 0)
    → x0 ≡ word (inv_sub_byte (get_or a 0 0)) (inv_sub_byte (get_or d 1 0)) (inv_sub_byte (get_or c 2 0)) (inv_sub_byte (get_or b 3 0))
    → x1 ≡ word (inv_sub_byte (get_or b 0 0)) (inv_sub_byte (get_or a 1 0)) (inv_sub_byte (get_or d 2 0)) (inv_sub_byte (get_or c 3 0))
    → x2 ≡ word (inv_sub_byte (get_or c 0 0)) (inv_sub_byte (get_or b 1 0)) (inv_sub_byte (get_or a 2 0)) (inv_sub_byte (get_or d 3 0))
    → x3 ≡ word (inv_sub_byte (get_or d 0 0)) (inv_sub_byte (get_or c 1 0)) (inv_sub_byte (get_or b 2 0)) (inv_sub_byte (get_or a 3 0))
    → y0 ≡ key_column keys n 0 → y1 ≡ key_column keys n 1 → y2 ≡ key_column keys n 2 → y3 ≡ key_column keys n 3
    → octets_of (bit_xor x0 y0 ∷ bit_xor x1 y1 ∷ bit_xor x2 y2 ∷ bit_xor x3 y3 ∷ []) ≡ add_round_key keys n (inv_sub_bytes (inv_shift_rows (octets_of w)))
unfolding add_round_key inv_shift_rows inv_sub_bytes
inv_last_round_is w keys n a b c d x0 x1 x2 x3 y0 y1 y2 y3 ks ea eb ec ed e0 e1 e2 e3 f0 f1 f2 f3 =
    let w0 = get_or w 0 0 in
    let w1 = get_or w 1 0 in
    let w2 = get_or w 2 0 in
    let w3 = get_or w 3 0 in
    let k : (j : ℕ) → get_or keys (16 * n + j) 0 < 256 = λ (j : ℕ). ks (16 * n + j) in
    let g0 = inv_last_and_key (at w0 0) (at w3 1) (at w2 2) (at w1 3) x0 y0 _ _ _ _ (at0 w0) (at1 w3) (at2 w2) (at3 w1) (k 0) (k 1) (k 2) (k 3)
    (e0 ∙ (λ i. word (inv_sub_byte (get_or (ea i) 0 0)) (inv_sub_byte (get_or (ed i) 1 0)) (inv_sub_byte (get_or (ec i) 2 0)) (inv_sub_byte (get_or (eb i) 3 0)))) f0 in
    let g1 = inv_last_and_key (at w1 0) (at w0 1) (at w3 2) (at w2 3) x1 y1 _ _ _ _ (at0 w1) (at1 w0) (at2 w3) (at3 w2) (k 4) (k 5) (k 6) (k 7)
    (e1 ∙ (λ i. word (inv_sub_byte (get_or (eb i) 0 0)) (inv_sub_byte (get_or (ea i) 1 0)) (inv_sub_byte (get_or (ed i) 2 0)) (inv_sub_byte (get_or (ec i) 3 0)))) f1 in
    let g2 = inv_last_and_key (at w2 0) (at w1 1) (at w0 2) (at w3 3) x2 y2 _ _ _ _ (at0 w2) (at1 w1) (at2 w0) (at3 w3) (k 8) (k 9) (k 10) (k 11)
    (e2 ∙ (λ i. word (inv_sub_byte (get_or (ec i) 0 0)) (inv_sub_byte (get_or (eb i) 1 0)) (inv_sub_byte (get_or (ea i) 2 0)) (inv_sub_byte (get_or (ed i) 3 0)))) f2 in
    let g3 = inv_last_and_key (at w3 0) (at w2 1) (at w1 2) (at w0 3) x3 y3 _ _ _ _ (at0 w3) (at1 w2) (at2 w1) (at3 w0) (k 12) (k 13) (k 14) (k 15)
    (e3 ∙ (λ i. word (inv_sub_byte (get_or (ed i) 0 0)) (inv_sub_byte (get_or (ec i) 1 0)) (inv_sub_byte (get_or (eb i) 2 0)) (inv_sub_byte (get_or (ea i) 3 0)))) f3 in
    λ i. g0 i ++ (g1 i ++ (g2 i ++ g3 i))

pub load_is : (s keys : List ℕ) (n x0 x1 x2 x3 y0 y1 y2 y3 : ℕ) → AreOctets s → AreOctets keys
    → x0 ≡ key_column s 0 0 → x1 ≡ key_column s 0 1 → x2 ≡ key_column s 0 2 → x3 ≡ key_column s 0 3
    → y0 ≡ key_column keys n 0 → y1 ≡ key_column keys n 1 → y2 ≡ key_column keys n 2 → y3 ≡ key_column keys n 3
    → octets_of (bit_xor x0 y0 ∷ bit_xor x1 y1 ∷ bit_xor x2 y2 ∷ bit_xor x3 y3 ∷ []) ≡ add_round_key keys n s
unfolding add_round_key
load_is s keys n x0 x1 x2 x3 y0 y1 y2 y3 os ks e0 e1 e2 e3 f0 f1 f2 f3 =
    let k : (j : ℕ) → get_or keys (16 * n + j) 0 < 256 = λ (j : ℕ). ks (16 * n + j) in
    let g0 = (λ i. to_be_bytes w32 (bit_xor (e0 i) (f0 i)))
    ∙ xored_octets (get_or s 0 0) (get_or s 1 0) (get_or s 2 0) (get_or s 3 0) (get_or keys (16 * n + 0) 0) (get_or keys (16 * n + 1) 0) (get_or keys (16 * n + 2) 0) (get_or keys (16 * n + 3) 0)
    (os 0) (os 1) (os 2) (os 3) (k 0) (k 1) (k 2) (k 3) in
    let g1 = (λ i. to_be_bytes w32 (bit_xor (e1 i) (f1 i)))
    ∙ xored_octets (get_or s 4 0) (get_or s 5 0) (get_or s 6 0) (get_or s 7 0) (get_or keys (16 * n + 4) 0) (get_or keys (16 * n + 5) 0) (get_or keys (16 * n + 6) 0) (get_or keys (16 * n + 7) 0)
    (os 4) (os 5) (os 6) (os 7) (k 4) (k 5) (k 6) (k 7) in
    let g2 = (λ i. to_be_bytes w32 (bit_xor (e2 i) (f2 i)))
    ∙ xored_octets (get_or s 8 0) (get_or s 9 0) (get_or s 10 0) (get_or s 11 0) (get_or keys (16 * n + 8) 0) (get_or keys (16 * n + 9) 0) (get_or keys (16 * n + 10) 0) (get_or keys (16 * n + 11) 0)
    (os 8) (os 9) (os 10) (os 11) (k 8) (k 9) (k 10) (k 11) in
    let g3 = (λ i. to_be_bytes w32 (bit_xor (e3 i) (f3 i)))
    ∙ xored_octets (get_or s 12 0) (get_or s 13 0) (get_or s 14 0) (get_or s 15 0) (get_or keys (16 * n + 12) 0) (get_or keys (16 * n + 13) 0) (get_or keys (16 * n + 14) 0) (get_or keys (16 * n + 15) 0)
    (os 12) (os 13) (os 14) (os 15) (k 12) (k 13) (k 14) (k 15) in
    λ i. g0 i ++ (g1 i ++ (g2 i ++ g3 i))
