use Rattle.std.proofs.Common.{◌≡◌, ◌∙◌, sym, ap, ap₂, arith, ◌+◌, ◌*◌, ◌/◌, ◌%◌, ◌^◌, ℕ, List, [], ◌++◌, drop, bit_xor}
use Rattle.std.specs.Int.{w64, to_be_bytes}
use Rattle.std.proofs.Math.ListN.{drop_of_length-le}
use Rattle.block_core.specs.Bits.{bits_of, bits_of_octets, octets_of_bits, pick}
use Rattle.block_core.specs.BitsLaws.{bits_append, bits_bits_of, bits_pick}
use Rattle.block_core.specs.Des.{Halves, halves_of, rounds, ordered, enciphered, under_keys, final_permutation}
use Rattle.block_core.specs.DesTables.{initial_permutation}
use Rattle.block_core.specs.DesWords.{keys_of_words}
use Rattle.block_core.proofs.DesBlock.{high_half, low_half, initial_long, initial_bits, final_long, octets_of_number}
use Rattle.block_core.proofs.DesRounds.{length-ordered_words, halves, word_round}
use Rattle.block_core.proofs.des_words.crypt.Goals as goal

pub loop-i-init : goal.loop-i-init
loop-i-init c =
    let bs : List ℕ = pick initial_permutation (bits_of_octets c.args.block.now) in
    let ks : List (List ℕ) = ordered c.args.backwards (keys_of_words 16 c.args.keys.now) in
    ap₂ (λ (x y : List ℕ). rounds ks (let h : Halves = record { left = x; right = y } in h))
    (ap (λ (n : ℕ). bits_of 32 (n / 2 ^ 32)) c.spread-halves.ensures ∙ high_half bs (initial_long c.args.block.now) (initial_bits c.args.block.now))
    (ap (λ (n : ℕ). bits_of 32 (n % 2 ^ 32)) c.spread-halves.ensures ∙ low_half bs (initial_long c.args.block.now) (initial_bits c.args.block.now))

pub loop-i-preserved : goal.loop-i-preserved
loop-i-preserved c =
    let b = c.args.backwards in
    let ws : List ℕ = c.args.keys.now in
    let ks : List (List ℕ) = ordered b (keys_of_words 16 ws) in
    let i : ℕ = c.loop-i.i in
    let f : ℕ = c.cipher_function.result in
    let l : ℕ = bit_xor c.loop-i.left f in
    let g : ℕ = c.cipher_function-in-loop-i.result in
    let e : 2 * (i + 1) ≡ 2 * i + 1 + 1 = omega arith in
    ap (λ (j : ℕ). rounds (drop j ks) (halves l (bit_xor c.loop-i.right g))) e
    ∙ word_round b ws (2 * i + 1) c.place-k.result c.loop-i.right l g (omega arith) c.place-k.ensures c.cipher_function-in-loop-i.ensures
    ∙ word_round b ws (2 * i) c.place-j.result c.loop-i.left c.loop-i.right f (omega arith) c.place-j.ensures c.cipher_function.ensures
    ∙ c.loop-i.invariant

pub returns : goal.returns
unfolding under_keys enciphered rounds
returns c =
    let ks : List (List ℕ) = ordered c.args.backwards (keys_of_words 16 c.args.keys.now) in
    let i : ℕ = c.loop-i.i in
    let done : drop (2 * i) ks ≡ [] = drop_of_length-le ks (omega (arith, length-ordered_words c.args.backwards c.args.keys.now)) in
    let left : List ℕ = bits_of 32 c.loop-i.left in
    let right : List ℕ = bits_of 32 c.loop-i.right in
    let h : Halves = record { left = left; right = right } in
    let all : h ≡ rounds ks (halves_of (pick initial_permutation (bits_of_octets c.args.block.now))) = ap (λ (js : List (List ℕ)). rounds js h) (sym done) ∙ c.loop-i.invariant in
    let last : List ℕ = pick final_permutation (right ++ left) in
    c.copy_from_slice.ensures.after
    ∙ c.to_be_bytes.ensures
    ∙ ap (to_be_bytes w64) c.gather.ensures
    ∙ octets_of_number last (final_long (right ++ left)) (bits_pick final_permutation (right ++ left) (bits_append right left (bits_bits_of 32 c.loop-i.right) (bits_bits_of 32 c.loop-i.left)))
    ∙ ap (λ (x : Halves). octets_of_bits 8 (pick final_permutation (x.right ++ x.left))) all
