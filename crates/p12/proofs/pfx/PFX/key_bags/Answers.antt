use Rattle.std.proofs.Common.{subst, sym}
use Rattle.std.specs.Prelude.{All}
use Rattle.p12.specs.SafeBag.{BagFits}
use Rattle.p12.proofs.HeldBags.{held_fit}
use Rattle.p12.proofs.pfx.PFX.key_bags.Goals as goal

pub opened_keys-requires-clause-fit : goal.opened_keys-requires-clause-fit
opened_keys-requires-clause-fit c =
    let holds = c.in_ok-bags.ensures.ok in
    subst (All BagFits) (sym c.as_slice.ensures) (held_fit c.args.password.now holds.1 _ holds.4)
