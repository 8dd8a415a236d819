use Rattle.std.proofs.Common.{arith, ◌∙◌, ap, List, ℕ}
use Rattle.block_core.specs.Bits.{bits_of_octets, number_of, pick}
use Rattle.block_core.specs.DesTables.{initial_permutation}
use Rattle.block_core.proofs.DesBlock.{spread_is, eight}
use Rattle.block_core.proofs.des_permutations.spread.Goals as goal

pub returns : goal.returns
returns c =
    spread_is _ _ _ _ _ _ _ _
    (omega (arith, c.type_inv.o 0)) (omega (arith, c.type_inv.o 1)) (omega (arith, c.type_inv.o 2)) (omega (arith, c.type_inv.o 3))
    (omega (arith, c.type_inv.o 4)) (omega (arith, c.type_inv.o 5)) (omega (arith, c.type_inv.o 6)) (omega (arith, c.type_inv.o 7))
    ∙ ap (λ (o : List ℕ). number_of (pick initial_permutation (bits_of_octets o))) (eight c.args.o.now c.requires)
