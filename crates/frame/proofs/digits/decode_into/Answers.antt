use Rattle.std.proofs.Common.{ℕ, ap, ◌≡◌, ◌∙◌, ◌*◌, ◌+◌, ◌/◌, ◌%◌, [], get_or, length, slice_index, arith}
use Rattle.hex.proofs.HexLemmas.{decode_of-even}
use Rattle.hex.proofs.Pairs.{decode_done, decode_step}
use Rattle.frame.proofs.Encoded.{known_as, pair_octet, pair_of}
use Rattle.frame.proofs.digits.decode_into.Goals as goal

pub loop-i-preserved : goal.loop-i-preserved
loop-i-preserved c =
    let i = c.loop-i.i in
    let digits = c.args.digits.now in
    let a = slice_index digits (2 * i) in
    let none : 2 * i + 0 ≡ 2 * i = omega arith in
    let b = slice_index digits (2 * i + 1) in
    let w = c.from_le_bytes-pair.result in
    let pairs = c.as_chunks.result.0.now in
    let one : slice_index (get_or pairs i []) 0 ≡ a = pair_octet pairs digits (length digits / 2) i 0 c.as_chunks.ensures.front (omega arith) (omega arith) ∙ ap (λ (k : ℕ). slice_index digits k) none in
    let two : slice_index (get_or pairs i []) 1 ≡ b = pair_octet pairs digits (length digits / 2) i 1 c.as_chunks.ensures.front (omega arith) (omega arith) in
    let whole : w ≡ slice_index (get_or pairs i []) 0 + slice_index (get_or pairs i []) 1 * 256 = c.from_le_bytes-pair.ensures in
    let fits = c.type_inv.digits (2 * i) in
    let first : w % 256 ≡ a = omega (arith, whole, one, two, fits) in
    let second : w / 256 ≡ b = omega (arith, whole, one, two, fits) in
    let high = known_as (w % 256) a _ first (c.requires.digits (2 * i) 0 (omega arith)) c.value.ensures.value in
    let low = known_as (w / 256) b _ second (c.requires.digits (2 * i + 1) 0 (omega arith)) c.value-in-loop-i.ensures.value in
    decode_step digits c.loop-i.octets i _ (omega arith) (omega arith) (pair_of a b (2 * i) _ _ high low) c.loop-i.invariant

pub returns : goal.returns
returns c =
    decode_of-even c.args.digits.now (omega arith) ∙ decode_done c.args.digits.now c.loop-i.octets c.loop-i.i (omega arith) (omega arith) c.loop-i.invariant
