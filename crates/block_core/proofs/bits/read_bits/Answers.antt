use Rattle.std.proofs.Common.{◌∙◌, ap, arith, refl, ◌+◌, ◌*◌, ◌^◌, ◌<◌, ℕ, List, take, get_or}
use Rattle.std.proofs.lemmas.List.{length-take}
use Rattle.block_core.specs.Bits.{number_of, number_from}
use Rattle.block_core.specs.BitsLaws.{number_of-lt, bits_take}
use Rattle.block_core.proofs.Groups.{number_more}
use Rattle.block_core.proofs.bits.read_bits.Goals as goal

pub loop-i-init : goal.loop-i-init
unfolding number_of number_from
loop-i-init c = refl

pub overflow_mul-n : goal.overflow_mul-n
overflow_mul-n c =
    let bs : List ℕ = c.args.bits.now in
    let low : number_of (take c.loop-i.i bs) < 2 ^ 7 = number_of-lt (take c.loop-i.i bs) 7 (bits_take c.loop-i.i bs c.requires.bits) (omega (arith, length-take c.loop-i.i bs)) in
    omega (arith, low, c.loop-i.invariant)

pub overflow_add-n : goal.overflow_add-n
overflow_add-n c =
    let bs : List ℕ = c.args.bits.now in
    let low : number_of (take c.loop-i.i bs) < 2 ^ 7 = number_of-lt (take c.loop-i.i bs) 7 (bits_take c.loop-i.i bs c.requires.bits) (omega (arith, length-take c.loop-i.i bs)) in
    omega (arith, low, c.loop-i.invariant, c.requires.bits c.loop-i.i)

pub loop-i-preserved : goal.loop-i-preserved
loop-i-preserved c = ap (λ (n : ℕ). 2 * n + get_or c.args.bits.now c.loop-i.i 0) c.loop-i.invariant ∙ number_more c.args.bits.now c.loop-i.i (omega arith)
