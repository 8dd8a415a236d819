use Rattle.std.proofs.Common.{arith, ◌≡◌, ◌∙◌, ap, ◌+◌, suc}
use Rattle.block_core.specs.Field.{times_x}
use Rattle.block_core.specs.Field.{power_of_x}
use Rattle.block_core.proofs.aes_key.round_constant.Goals as goal

pub loop-i-init : goal.loop-i-init
unfolding power_of_x
loop-i-init c = λ i. 1

pub loop-i-preserved : goal.loop-i-preserved
unfolding power_of_x
loop-i-preserved c =
    let e : suc c.loop-i._i ≡ c.loop-i._i + 1 = omega arith in
    c.times_x-c.ensures ∙ ap times_x c.loop-i.invariant ∙ ap power_of_x e
