use Rattle.std.proofs.Common.{refl, sym}
use Rattle.store_renewal.specs.Renewals.{IsOldRefused, by_forms}
use Rattle.store_renewal.proofs.Renewing.{held_as, listed, old_opened, refused_sealing, renewed}
use Rattle.store_renewal.proofs.Settling.{settled_done, settled_opening, settled_sealing}
use Rattle.store_renewal.proofs.upgrade.upgrade_any.Goals as goal

pub renewed_store-requires-clause-lists : goal.renewed_store-requires-clause-lists
renewed_store-requires-clause-lists g c =
    let h = c.in-Ok-parts_of.ensures.parts in
    let w = listed h.1 c.in-Ok-parts_of.parts.contents h.5 in
    rw (c.as_slice-contents.ensures) w

pub renewed_store-requires-clause-open : goal.renewed_store-requires-clause-open
renewed_store-requires-clause-open g c =
    let o = old_opened c.args.store.now c.args.old.now c.args.limit c.args.steps.now c.open_legacy.new.steps c.in-Ok-parts_of.parts.version c.in-Ok-parts_of.parts.contents c.in-Ok.opened.contents c.in-Ok.opened.keys c.in-Ok.ensures.opened
    c.in-Ok-parts_of.ensures.parts in
    let held = held_as c.args.store.now c.args.old.now c.args.limit c.args.steps.now c.open_legacy.new.steps c.in-Ok-parts_of.parts.version c.in-Ok-parts_of.parts.contents c.in-Ok.opened.contents c.in-Ok.opened.keys o in
    (by_forms o.opens.forms, rw (c.as_slice-contents.ensures) held)

pub returns-in-Ok-renewed_store-clause-changed : goal.returns-in-Ok-renewed_store-clause-changed
returns-in-Ok-renewed_store-clause-changed g c =
    let o = old_opened c.args.store.now c.args.old.now c.args.limit c.args.steps.now c.open_legacy.new.steps c.in-Ok-parts_of.parts.version c.in-Ok-parts_of.parts.contents c.in-Ok.opened.contents c.in-Ok.opened.keys c.in-Ok.ensures.opened
    c.in-Ok-parts_of.ensures.parts in
    renewed c.args.renewal c.args.store.now c.args.old.now c.args.limit c.args.steps.now c.open_legacy.new.steps c.in-Ok-parts_of.parts.version c.in-Ok-parts_of.parts.contents c.in-Ok.opened.contents c.in-Ok.opened.keys o
    c.args.new.now (g.D.Draw.left c.args.draw.now) (g.D.Draw.left c.renewed_store.new.draw) c.in-Ok-renewed_store.text
    (rw (sym c.as_slice-contents.ensures) c.in-Ok-renewed_store.ensures.sealed) (rw (sym c.as_slice-contents.ensures) c.in-Ok-renewed_store.ensures.within)

pub returns-clause-refused : goal.returns-clause-refused
returns-clause-refused g c =
    let o = old_opened c.args.store.now c.args.old.now c.args.limit c.args.steps.now c.open_legacy.new.steps c.in-Ok-parts_of.parts.version c.in-Ok-parts_of.parts.contents c.in-Ok.opened.contents c.in-Ok.opened.keys c.in-Ok.ensures.opened
    c.in-Ok-parts_of.ensures.parts in
    refused_sealing c.args.renewal c.args.store.now c.args.old.now c.args.limit c.args.steps.now c.open_legacy.new.steps c.in-Ok-parts_of.parts.version c.in-Ok-parts_of.parts.contents c.in-Ok.opened.contents c.in-Ok.opened.keys o
    (IsOldRefused c.args.store.now c.args.old.now c.args.limit c.args.steps.now c.open_legacy.new.steps) (g.D.Draw.left c.args.draw.now) (g.D.Draw.left c.renewed_store.new.draw) (g.D.Draw.faults c.args.draw.now) (g.D.Draw.faults c.renewed_store.new.draw)
    c.in-Err-renewed_store.e (rw (sym c.as_slice-contents.ensures) c.in-Err-renewed_store.ensures.refused)

pub returns-in-Err-clause-exact : goal.returns-in-Err-clause-exact
returns-in-Err-clause-exact g c = settled_opening c.args.renewal c.args.store.now c.args.old.now c.args.limit (g.D.Draw.left c.args.draw.now) c.in-Err.e _ refl c.in-Err.ensures.exact

pub returns-in-Ok-renewed_store-clause-exact : goal.returns-in-Ok-renewed_store-clause-exact
returns-in-Ok-renewed_store-clause-exact g c =
    let o = old_opened c.args.store.now c.args.old.now c.args.limit c.args.steps.now c.open_legacy.new.steps c.in-Ok-parts_of.parts.version c.in-Ok-parts_of.parts.contents c.in-Ok.opened.contents c.in-Ok.opened.keys c.in-Ok.ensures.opened
    c.in-Ok-parts_of.ensures.parts in
    settled_done c.args.renewal c.args.store.now c.args.old.now c.args.limit c.args.steps.now c.open_legacy.new.steps c.in-Ok-parts_of.parts.version c.in-Ok-parts_of.parts.contents c.in-Ok.opened.contents c.in-Ok.opened.keys o
    c.made_stores_are_sized.ensures c.args.new.now (g.D.Draw.left c.args.draw.now) (g.D.Draw.left c.renewed_store.new.draw) c.in-Ok-renewed_store.text
    (rw (sym c.as_slice-contents.ensures) c.in-Ok-renewed_store.ensures.sealed) (rw (sym c.as_slice-contents.ensures) c.in-Ok-renewed_store.ensures.within)

pub returns-clause-exact : goal.returns-clause-exact
returns-clause-exact g c =
    let o = old_opened c.args.store.now c.args.old.now c.args.limit c.args.steps.now c.open_legacy.new.steps c.in-Ok-parts_of.parts.version c.in-Ok-parts_of.parts.contents c.in-Ok.opened.contents c.in-Ok.opened.keys c.in-Ok.ensures.opened
    c.in-Ok-parts_of.ensures.parts in
    settled_sealing c.args.renewal c.args.store.now c.args.old.now c.args.limit c.args.steps.now c.open_legacy.new.steps c.in-Ok-parts_of.parts.version c.in-Ok-parts_of.parts.contents c.in-Ok.opened.contents c.in-Ok.opened.keys o
    (g.D.Draw.left c.args.draw.now) (g.D.Draw.left c.renewed_store.new.draw) (g.D.Draw.faults c.args.draw.now) (g.D.Draw.faults c.renewed_store.new.draw) c.in-Err-renewed_store.e
    (rw (sym c.as_slice-contents.ensures) c.in-Err-renewed_store.ensures.refused) (rw (sym c.as_slice-contents.ensures) c.in-Err-renewed_store.ensures.over)
