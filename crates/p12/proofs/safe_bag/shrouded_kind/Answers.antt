use Rattle.std.proofs.Common.{arith}
use Rattle.p12.proofs.BagWalks.{key_within}
use Rattle.p12.proofs.safe_bag.shrouded_kind.Goals as goal

pub ending_at-at-requires : goal.ending_at-at-requires
ending_at-at-requires c = omega (arith, c.requires, key_within _ _ _ c.in-Ok.ensures.exact)
