use Rattle.block_core.specs.Tdes.{tdes, inv_tdes, under_three, back_under_three}
use Rattle.block_core.proofs.tdes.TdesEde3BlockCipher.new.Goals as goal

pub returns-clause-forward : goal.returns-clause-forward
unfolding tdes under_three
returns-clause-forward c =
    λ i b. c.new-third.ensures.forward i (c.new-second.ensures.backward i (c.new-first.ensures.forward i b))

pub returns-clause-backward : goal.returns-clause-backward
unfolding inv_tdes back_under_three
returns-clause-backward c =
    λ i b. c.new-first.ensures.backward i (c.new-second.ensures.forward i (c.new-third.ensures.backward i b))
