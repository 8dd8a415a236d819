use Rattle.std.proofs.Common.{arith, ◌≡◌, ◌∙◌, ap, ℕ, List, ◌+◌, ◌-◌, ◌*◌, ◌<◌, length, take, drop, below_more, slice_set}
use Rattle.std.proofs.lemmas.List.{length-take-le, length-drop, length-set}
use Rattle.block_core.specs.Bits.{AreBits}
use Rattle.block_core.specs.BitsLaws.{bits_take, bits_drop}
use Rattle.block_core.specs.DesWords.{packed}
use Rattle.block_core.proofs.DesRounds.{key_packed, keys_packed, pair_kept, pair_set}
use Rattle.block_core.proofs.des_words.pack_keys.Goals as goal

pub pack-requires-clause-bits : goal.pack-requires-clause-bits
pack-requires-clause-bits c =
    bits_take (48 * c.loop-i.i + 48 - 48 * c.loop-i.i) _ (bits_drop (48 * c.loop-i.i) c.args.bits.now c.requires)

pub pack-requires-in-loop-i-clause-bits : goal.pack-requires-in-loop-i-clause-bits
pack-requires-in-loop-i-clause-bits c =
    bits_take (48 * c.loop-i.i + 48 - 48 * c.loop-i.i) _ (bits_drop (48 * c.loop-i.i) c.args.bits.now c.requires)

pub loop-i-preserved : goal.loop-i-preserved
loop-i-preserved c =
    let i : ℕ = c.loop-i.i in
    let bits : List ℕ = c.args.bits.now in
    let key : List ℕ = take 48 (drop (48 * i) bits) in
    let w : 48 * i + 48 - 48 * i ≡ 48 = omega arith in
    let long : length key ≡ 48 = length-take-le 48 (drop (48 * i) bits) (omega (arith, length-drop (48 * i) bits, c.told-bits)) in
    let is : AreBits key = bits_take 48 (drop (48 * i) bits) (bits_drop (48 * i) bits c.requires) in
    let even = c.pack.ensures ∙ ap (λ (n : ℕ). packed (take n (drop (48 * i) bits)) 0) w in
    let odd = c.pack-in-loop-i.ensures ∙ ap (λ (n : ℕ). packed (take n (drop (48 * i) bits)) 6) w in
    let room : 2 * i + 1 < length c.loop-i.keys = omega (arith, c.loop-i.invariant.0) in (
      length-set (slice_set c.loop-i.keys (2 * i) _) (2 * i + 1) _ ∙ length-set c.loop-i.keys (2 * i) _ ∙ c.loop-i.invariant.0,
      below_more _ _
          (λ k h. pair_kept c.loop-i.keys i k _ _ h ∙ c.loop-i.invariant.1 k h)
          (pair_set c.loop-i.keys i _ _ room ∙ key_packed key _ _ long is even odd),
    )

pub returns : goal.returns
returns c = keys_packed 16 c.loop-i.keys c.args.bits.now (λ k h. c.loop-i.invariant.1 k (omega arith))
