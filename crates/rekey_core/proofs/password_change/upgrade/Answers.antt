use Rattle.std.proofs.Common.{◌≡◌, ◌≤◌, true, false, refl, sym, inr, rules}
use Rattle.std.specs.Bool.{Decides}
use Rattle.rekey_core.specs.Upgraded.{seal_rounds}
use Rattle.rekey_core.specs.declared.kinds.Kinds.TheVariants.{Renewed}
use Rattle.rekey_core.specs.Unlocking.{under}
use Rattle.rekey_core.proofs.Held.{can_seal}
use Rattle.rekey_core.proofs.Settling.{held_of, mac_known}
use Rattle.rekey_core.proofs.Upgrading.{over_limit, refused_upgrade, settled_opening, settled_over, settled_refused_upgrade, settled_upgraded, upgraded}
use Rattle.rekey_core.proofs.password_change.upgrade.Goals as goal

pub returns-in-Err-clause-exact : goal.returns-in-Err-clause-exact
returns-in-Err-clause-exact g c = settled_opening c.args.renewal c.args.store.now c.args.old.now c.args.limit (g.D.Draw.left c.args.draw.now) c.in-Err.e _ refl c.in-Err.ensures.exact

pub returns-then-not-is_within-clause-refused : goal.returns-then-not-is_within-clause-refused
returns-then-not-is_within-clause-refused g c =
    let d : Decides c.is_within.result (seal_rounds c.args.renewal.rounds c.in-Ok.store.contents c.in-Ok.store.opened.contents ≤ c.args.renewal.seal_limit) = rw (sym c.as_slice.ensures, sym c.as_slice-2.ensures) c.is_within.ensures in
    let no : c.is_within.result ≡ false = first_of (cc, search rules) in
    inr (over_limit c.args.renewal c.args.store.now c.args.old.now c.args.limit c.args.steps.now c.opened_store.new.steps _ _ _ _ _ c.in-Ok.ensures.opened c.is_within.result d no)

pub returns-then-not-is_within-clause-exact : goal.returns-then-not-is_within-clause-exact
returns-then-not-is_within-clause-exact g c =
    let d : Decides c.is_within.result (seal_rounds c.args.renewal.rounds c.in-Ok.store.contents c.in-Ok.store.opened.contents ≤ c.args.renewal.seal_limit) = rw (sym c.as_slice.ensures, sym c.as_slice-2.ensures) c.is_within.ensures in
    let no : c.is_within.result ≡ false = first_of (cc, search rules) in
    settled_over c.args.renewal c.args.store.now c.args.old.now c.args.limit c.args.steps.now c.opened_store.new.steps _ _ _ _ _ c.in-Ok.ensures.opened (g.D.Draw.left c.args.draw.now) (over_limit c.args.renewal c.args.store.now c.args.old.now c.args.limit c.args.steps.now c.opened_store.new.steps _ _ _ _ _ c.in-Ok.ensures.opened c.is_within.result d no)

pub sealed_store-requires-clause-open : goal.sealed_store-requires-clause-open
sealed_store-requires-clause-open g c = (under c.args.old.now, can_seal (Renewed c.args.renewal.rounds) c.args.old.now, held_of c.args.store.now c.args.old.now c.args.limit c.args.steps.now c.opened_store.new.steps _ _ _ _ _ c.in-Ok.ensures.opened)

pub sealed_store-requires-clause-known : goal.sealed_store-requires-clause-known
sealed_store-requires-clause-known g c = (mac_known c.args.store.now c.args.old.now c.args.limit c.args.steps.now c.opened_store.new.steps _ _ _ _ _ c.in-Ok.ensures.opened).0

pub sealed_store-requires-clause-rounds : goal.sealed_store-requires-clause-rounds
sealed_store-requires-clause-rounds g c = (mac_known c.args.store.now c.args.old.now c.args.limit c.args.steps.now c.opened_store.new.steps _ _ _ _ _ c.in-Ok.ensures.opened).1

pub returns-in-Ok-sealed_store-clause-changed : goal.returns-in-Ok-sealed_store-clause-changed
returns-in-Ok-sealed_store-clause-changed g c =
    let d : Decides c.is_within.result (seal_rounds c.args.renewal.rounds c.in-Ok.store.contents c.in-Ok.store.opened.contents ≤ c.args.renewal.seal_limit) = rw (sym c.as_slice.ensures, sym c.as_slice-2.ensures) c.is_within.ensures in
    let yes : c.is_within.result ≡ true = first_of (cc, search rules) in
    upgraded c.args.renewal c.args.store.now c.args.old.now c.args.limit c.args.steps.now c.opened_store.new.steps _ _ _ _ _ c.in-Ok.ensures.opened (d.0 yes) c.args.new.now (g.D.Draw.left c.args.draw.now) (g.D.Draw.left c.sealed_store.new.draw)
    c.in-Ok-sealed_store.text c.in-Ok-sealed_store.ensures.sealed

pub returns-in-Ok-sealed_store-clause-exact : goal.returns-in-Ok-sealed_store-clause-exact
returns-in-Ok-sealed_store-clause-exact g c =
    let d : Decides c.is_within.result (seal_rounds c.args.renewal.rounds c.in-Ok.store.contents c.in-Ok.store.opened.contents ≤ c.args.renewal.seal_limit) = rw (sym c.as_slice.ensures, sym c.as_slice-2.ensures) c.is_within.ensures in
    let yes : c.is_within.result ≡ true = first_of (cc, search rules) in
    settled_upgraded c.args.renewal c.args.store.now c.args.old.now c.args.limit c.args.steps.now c.opened_store.new.steps _ _ _ _ _ c.in-Ok.ensures.opened (d.0 yes) c.args.new.now (g.D.Draw.left c.args.draw.now) (g.D.Draw.left c.sealed_store.new.draw)
    c.in-Ok-sealed_store.text c.in-Ok-sealed_store.ensures.sealed

pub returns-clause-refused : goal.returns-clause-refused
returns-clause-refused g c =
    refused_upgrade c.args.renewal c.args.store.now c.args.old.now c.args.limit c.args.steps.now c.opened_store.new.steps _ _ _ _ _ c.in-Ok.ensures.opened (g.D.Draw.left c.args.draw.now) (g.D.Draw.left c.sealed_store.new.draw)
    (g.D.Draw.faults c.args.draw.now) (g.D.Draw.faults c.sealed_store.new.draw) c.in-Err-sealed_store.e c.in-Err-sealed_store.ensures.err

pub returns-clause-exact : goal.returns-clause-exact
returns-clause-exact g c =
    let d : Decides c.is_within.result (seal_rounds c.args.renewal.rounds c.in-Ok.store.contents c.in-Ok.store.opened.contents ≤ c.args.renewal.seal_limit) = rw (sym c.as_slice.ensures, sym c.as_slice-2.ensures) c.is_within.ensures in
    let yes : c.is_within.result ≡ true = first_of (cc, search rules) in
    settled_refused_upgrade c.args.renewal c.args.store.now c.args.old.now c.args.limit c.args.steps.now c.opened_store.new.steps _ _ _ _ _ c.in-Ok.ensures.opened (d.0 yes) (g.D.Draw.left c.args.draw.now) (g.D.Draw.left c.sealed_store.new.draw)
    (g.D.Draw.faults c.args.draw.now) (g.D.Draw.faults c.sealed_store.new.draw) c.in-Err-sealed_store.e c.in-Err-sealed_store.ensures.err
