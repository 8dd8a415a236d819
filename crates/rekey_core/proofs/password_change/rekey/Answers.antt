use Rattle.std.proofs.Common.{refl}
use Rattle.rekey_core.specs.Rekeyed.{IsRefused}
use Rattle.rekey_core.specs.declared.kinds.Kinds.TheVariants.{Kept}
use Rattle.rekey_core.specs.Unlocking.{under}
use Rattle.rekey_core.proofs.Held.{can_seal}
use Rattle.rekey_core.proofs.Settling.{done_settles, held_of, known_of, mac_known, refused_sealing, settled_refused, settled_sealing, undrawn_of}
use Rattle.rekey_core.proofs.password_change.rekey.Goals as goal

pub returns-in-Err-clause-exact : goal.returns-in-Err-clause-exact
returns-in-Err-clause-exact g c = settled_refused Kept c.args.store.now c.args.old.now c.args.limit (g.D.Draw.left c.args.draw.now) c.in-Err.e _ refl c.in-Err.ensures.exact

pub sealed_store-requires-clause-open : goal.sealed_store-requires-clause-open
sealed_store-requires-clause-open g c = (under c.args.old.now, can_seal Kept c.args.old.now, held_of c.args.store.now c.args.old.now c.args.limit c.args.steps.now c.opened_store.new.steps _ _ _ _ _ c.in-Ok.ensures.opened)

pub sealed_store-requires-clause-known : goal.sealed_store-requires-clause-known
sealed_store-requires-clause-known g c = (mac_known c.args.store.now c.args.old.now c.args.limit c.args.steps.now c.opened_store.new.steps _ _ _ _ _ c.in-Ok.ensures.opened).0

pub sealed_store-requires-clause-rounds : goal.sealed_store-requires-clause-rounds
sealed_store-requires-clause-rounds g c = (mac_known c.args.store.now c.args.old.now c.args.limit c.args.steps.now c.opened_store.new.steps _ _ _ _ _ c.in-Ok.ensures.opened).1

pub returns-in-Ok-sealed_store-clause-changed : goal.returns-in-Ok-sealed_store-clause-changed
returns-in-Ok-sealed_store-clause-changed g c =
    let w = known_of Kept c.args.store.now c.args.old.now c.args.limit c.args.steps.now c.opened_store.new.steps _ _ _ _ _ c.in-Ok.ensures.opened in
    w.rekeys c.args.new.now (g.D.Draw.left c.args.draw.now) (g.D.Draw.left c.sealed_store.new.draw) c.in-Ok-sealed_store.text c.in-Ok-sealed_store.ensures.sealed

pub returns-in-Ok-sealed_store-clause-exact : goal.returns-in-Ok-sealed_store-clause-exact
returns-in-Ok-sealed_store-clause-exact g c =
    let w = known_of Kept c.args.store.now c.args.old.now c.args.limit c.args.steps.now c.opened_store.new.steps _ _ _ _ _ c.in-Ok.ensures.opened in
    done_settles Kept c.args.store.now c.args.old.now c.args.new.now c.args.limit c.args.steps.now c.opened_store.new.steps (g.D.Draw.left c.args.draw.now) (g.D.Draw.left c.sealed_store.new.draw) c.in-Ok-sealed_store.text
    (w.rekeys c.args.new.now (g.D.Draw.left c.args.draw.now) (g.D.Draw.left c.sealed_store.new.draw) c.in-Ok-sealed_store.text c.in-Ok-sealed_store.ensures.sealed)

pub returns-clause-refused : goal.returns-clause-refused
returns-clause-refused g c =
    let w = known_of Kept c.args.store.now c.args.old.now c.args.limit c.args.steps.now c.opened_store.new.steps _ _ _ _ _ c.in-Ok.ensures.opened in
    refused_sealing Kept (IsRefused c.args.store.now c.args.old.now c.args.limit c.args.steps.now c.opened_store.new.steps) c.args.store.now c.args.old.now c.args.limit c.args.steps.now c.opened_store.new.steps _ _ _ _ _ (g.D.Draw.left c.args.draw.now)
    (g.D.Draw.left c.sealed_store.new.draw) (g.D.Draw.faults c.args.draw.now) (g.D.Draw.faults c.sealed_store.new.draw) c.in-Err-sealed_store.e w c.in-Err-sealed_store.ensures.err

pub returns-clause-exact : goal.returns-clause-exact
returns-clause-exact g c =
    let w = known_of Kept c.args.store.now c.args.old.now c.args.limit c.args.steps.now c.opened_store.new.steps _ _ _ _ _ c.in-Ok.ensures.opened in
    settled_sealing Kept c.args.store.now c.args.old.now c.args.limit c.args.steps.now c.opened_store.new.steps _ _ _ _ _ (g.D.Draw.left c.args.draw.now) (g.D.Draw.left c.sealed_store.new.draw) (g.D.Draw.faults c.args.draw.now)
    (g.D.Draw.faults c.sealed_store.new.draw) c.in-Err-sealed_store.e w c.in-Err-sealed_store.ensures.err

pub returns-clause-undrawn : goal.returns-clause-undrawn
returns-clause-undrawn g c = λ u. undrawn_of _ _ _ c.in-Err-sealed_store.e c.in-Err-sealed_store.ensures.err u
