use Rattle.std.proofs.Common.{subst, sym}
use Rattle.std.specs.Prelude.{All}
use Rattle.p12.specs.ContentInfo.{SealFits}
use Rattle.p12.proofs.HeldBags.{listed_fit}
use Rattle.p12.proofs.pfx.PFX.bags.Goals as goal

pub all_bags-requires-clause-fit : goal.all_bags-requires-clause-fit
all_bags-requires-clause-fit c = subst (All SealFits) (sym c.as_slice-2.ensures) (listed_fit _ _ c.in_ok-contents.ensures.ok)
