-- The entries of the tables, and their sums.
use Rattle.std.proofs.Common.{◌≡◌, ◌∙◌, ◌<◌, ap, ℕ, List, [], ◌∷◌, refl, get_or, length, bit_xor}
use Rattle.std.specs.Prelude.{map}
use Rattle.std.proofs.lemmas.List.{get_or-map}
use Rattle.block_core.specs.Field.{product, product_below, times_x}
use Rattle.block_core.specs.Sbox.{sub_byte, inv_sub_byte}
use Rattle.block_core.specs.SboxLaws.{sbox_entry, inv_sbox_entry, sub_facts_at}
use Rattle.block_core.specs.AesWords.{scaled, mixed_word}
use Rattle.block_core.specs.AesWordsLaws.{column_sum}
use Rattle.block_core.specs.declared.aes_tables.TheConstants.{TD, TE}
use Rattle.block_core.specs.declared.sbox.TheConstants.{SBOX, INV_SBOX}

-- an entry of a table that is made of the S-box's, or of its inverse's
made_entry : (f : ℕ → ℕ) (s t : List ℕ) → t ≡ map f s → (a b : ℕ) → a < length s → get_or s a 0 ≡ b → get_or t a 0 ≡ f b
made_entry f s t is a b h e = ap (λ (u : List ℕ). get_or u a 0) is ∙ get_or-map f s a 0 0 h ∙ ap f e

te0_is : (get_or TE 0 []) ≡ map (scaled 2 1 1 3) SBOX
unfolding product product_below times_x
te0_is = refl

te1_is : (get_or TE 1 []) ≡ map (scaled 3 2 1 1) SBOX
unfolding product product_below times_x
te1_is = refl

te2_is : (get_or TE 2 []) ≡ map (scaled 1 3 2 1) SBOX
unfolding product product_below times_x
te2_is = refl

te3_is : (get_or TE 3 []) ≡ map (scaled 1 1 3 2) SBOX
unfolding product product_below times_x
te3_is = refl

pub column_is : (a b c d : ℕ) → a < 256 → b < 256 → c < 256 → d < 256
    → bit_xor (bit_xor (get_or (get_or TE 0 []) a 0) (get_or (get_or TE 1 []) b 0)) (bit_xor (get_or (get_or TE 2 []) c 0) (get_or (get_or TE 3 []) d 0))
    ≡ mixed_word 2 3 1 1 (map sub_byte (a ∷ b ∷ c ∷ d ∷ []))
column_is a b c d ha hb hc hd =
    let e0 = made_entry (scaled 2 1 1 3) SBOX (get_or TE 0 []) te0_is a _ ha (sbox_entry a ha) in
    let e1 = made_entry (scaled 3 2 1 1) SBOX (get_or TE 1 []) te1_is b _ hb (sbox_entry b hb) in
    let e2 = made_entry (scaled 1 3 2 1) SBOX (get_or TE 2 []) te2_is c _ hc (sbox_entry c hc) in
    let e3 = made_entry (scaled 1 1 3 2) SBOX (get_or TE 3 []) te3_is d _ hd (sbox_entry d hd) in
    (λ i. bit_xor (bit_xor (e0 i) (e1 i)) (bit_xor (e2 i) (e3 i)))
    ∙ column_sum 2 3 1 1 (sub_byte a) (sub_byte b) (sub_byte c) (sub_byte d)
    (sub_facts_at a ha).2 (sub_facts_at b hb).2 (sub_facts_at c hc).2 (sub_facts_at d hd).2

td0_is : (get_or TD 0 []) ≡ map (scaled 14 9 13 11) INV_SBOX
unfolding product product_below times_x
td0_is = refl

td1_is : (get_or TD 1 []) ≡ map (scaled 11 14 9 13) INV_SBOX
unfolding product product_below times_x
td1_is = refl

td2_is : (get_or TD 2 []) ≡ map (scaled 13 11 14 9) INV_SBOX
unfolding product product_below times_x
td2_is = refl

td3_is : (get_or TD 3 []) ≡ map (scaled 9 13 11 14) INV_SBOX
unfolding product product_below times_x
td3_is = refl

pub inv_column_is : (a b c d : ℕ) → a < 256 → b < 256 → c < 256 → d < 256
    → bit_xor (bit_xor (get_or (get_or TD 0 []) a 0) (get_or (get_or TD 1 []) b 0)) (bit_xor (get_or (get_or TD 2 []) c 0) (get_or (get_or TD 3 []) d 0))
    ≡ mixed_word 14 11 13 9 (map inv_sub_byte (a ∷ b ∷ c ∷ d ∷ []))
inv_column_is a b c d ha hb hc hd =
    let e0 = made_entry (scaled 14 9 13 11) INV_SBOX (get_or TD 0 []) td0_is a _ ha (inv_sbox_entry a ha) in
    let e1 = made_entry (scaled 11 14 9 13) INV_SBOX (get_or TD 1 []) td1_is b _ hb (inv_sbox_entry b hb) in
    let e2 = made_entry (scaled 13 11 14 9) INV_SBOX (get_or TD 2 []) td2_is c _ hc (inv_sbox_entry c hc) in
    let e3 = made_entry (scaled 9 13 11 14) INV_SBOX (get_or TD 3 []) td3_is d _ hd (inv_sbox_entry d hd) in
    (λ i. bit_xor (bit_xor (e0 i) (e1 i)) (bit_xor (e2 i) (e3 i)))
    ∙ column_sum 14 11 13 9 (inv_sub_byte a) (inv_sub_byte b) (inv_sub_byte c) (inv_sub_byte d)
    (sub_facts_at a ha).3 (sub_facts_at b hb).3 (sub_facts_at c hc).3 (sub_facts_at d hd).3
