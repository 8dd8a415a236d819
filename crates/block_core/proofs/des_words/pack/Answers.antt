use Rattle.std.proofs.Common.{arith, ◌≡◌, ◌∙◌, ap, ℕ, List, ◌+◌, ◌-◌, take, drop}
use Rattle.block_core.specs.Bits.{number_of}
use Rattle.block_core.specs.BitsLaws.{bits_take, bits_drop}
use Rattle.block_core.specs.AesWords.{word}
use Rattle.block_core.proofs.des_words.pack.Goals as goal

pub read_bits-requires-clause-bits : goal.read_bits-requires-clause-bits
read_bits-requires-clause-bits c =
    bits_take (c.args.first + 6 - c.args.first) _ (bits_drop c.args.first c.args.key.now c.requires.bits)

pub read_bits-requires-2-clause-bits : goal.read_bits-requires-2-clause-bits
read_bits-requires-2-clause-bits c =
    bits_take (c.args.first + 18 - (c.args.first + 12)) _ (bits_drop (c.args.first + 12) c.args.key.now c.requires.bits)

pub read_bits-requires-3-clause-bits : goal.read_bits-requires-3-clause-bits
read_bits-requires-3-clause-bits c =
    bits_take (c.args.first + 30 - (c.args.first + 24)) _ (bits_drop (c.args.first + 24) c.args.key.now c.requires.bits)

pub read_bits-requires-4-clause-bits : goal.read_bits-requires-4-clause-bits
read_bits-requires-4-clause-bits c =
    bits_take (c.args.first + 42 - (c.args.first + 36)) _ (bits_drop (c.args.first + 36) c.args.key.now c.requires.bits)

pub returns : goal.returns
returns c =
    let a : ℕ = c.args.first in
    let key : List ℕ = c.args.key.now in
    let w0 : a + 6 - a ≡ 6 = omega arith in
    let w1 : a + 18 - (a + 12) ≡ 6 = omega arith in
    let w2 : a + 30 - (a + 24) ≡ 6 = omega arith in
    let w3 : a + 42 - (a + 36) ≡ 6 = omega arith in
    let e0 = c.read_bits.ensures ∙ ap (λ (w : ℕ). number_of (take w (drop a key))) w0 in
    let e1 = c.read_bits-2.ensures ∙ ap (λ (w : ℕ). number_of (take w (drop (a + 12) key))) w1 in
    let e2 = c.read_bits-3.ensures ∙ ap (λ (w : ℕ). number_of (take w (drop (a + 24) key))) w2 in
    let e3 = c.read_bits-4.ensures ∙ ap (λ (w : ℕ). number_of (take w (drop (a + 36) key))) w3 in
    c.from_be_bytes.ensures ∙ (λ i. word (e0 i) (e1 i) (e2 i) (e3 i))
