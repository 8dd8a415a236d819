use Rattle.std.proofs.Common.{◌≡◌, ◌+◌, ap, subst, sym}
use Rattle.std.specs.Prelude.{OnOk, IfErr}
use Rattle.std.specs.List.{sum_by}
use Rattle.p12.specs.SafeBag.{KindFits}
use Rattle.transfer.specs.Opening.{RefusedAfter, shrouded_in}
use Rattle.transfer.specs.Parts.{IsFirstFault, OpensMore}
use Rattle.legacy_store.specs.Budget.{Spends}
use Rattle.legacy_store.specs.Forms.{seen_forms}
use Rattle.legacy_store.specs.Opening.{legacy_key_share, legacy_keys}
use Rattle.legacy_store.proofs.keys.open_bag_key.Goals as goal

pub add_key-requires-clause-text : goal.add_key-requires-clause-text
add_key-requires-clause-text g c = (subst KindFits c.in-Pkcs8ShroudedKeyBag.is c.requires.fits).0

pub add_key-requires-clause-salt : goal.add_key-requires-clause-salt
add_key-requires-clause-salt g c = (subst KindFits c.in-Pkcs8ShroudedKeyBag.is c.requires.fits).1

pub returns-in-Pkcs8ShroudedKeyBag-clause-opened : goal.returns-in-Pkcs8ShroudedKeyBag-clause-opened
returns-in-Pkcs8ShroudedKeyBag-clause-opened g c =
    let K = legacy_keys (seen_forms c.args.secret.now) c.args.budget.now.limit in
    let b = c.args.budget.now in
    subst (λ ks. OnOk c.add_key.result (OpensMore K b.limit b.spent ks c.args.keys.now c.add_key.new.keys × Spends b c.add_key.new.budget (sum_by legacy_key_share ks) × (c.add_key.new.steps ≡ c.args.steps.now + sum_by legacy_key_share ks)))
    (sym (ap shrouded_in c.in-Pkcs8ShroudedKeyBag.is)) c.add_key.ensures.opened

pub returns-in-Pkcs8ShroudedKeyBag-clause-refused : goal.returns-in-Pkcs8ShroudedKeyBag-clause-refused
returns-in-Pkcs8ShroudedKeyBag-clause-refused g c =
    let K = legacy_keys (seen_forms c.args.secret.now) c.args.budget.now.limit in
    let b = c.args.budget.now in
    subst (λ ks. IfErr c.add_key.result (RefusedAfter (IsFirstFault K b.limit b.spent ks) c.args.steps.now c.add_key.new.steps))
    (sym (ap shrouded_in c.in-Pkcs8ShroudedKeyBag.is)) c.add_key.ensures.refused
