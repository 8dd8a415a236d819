use Rattle.std.proofs.Common.{List, ℕ, [], arith, subst, sym, ◌∙◌}
use Rattle.std.specs.Prelude.{All}
use Rattle.p12.specs.Canonical.{WritableContent}
use Rattle.rekey_core.specs.Kinds.{mac_kind}
use Rattle.rekey_core.proofs.KindFacts.{kind_known}
use Rattle.p12.specs.declared.content_info.ContentInfo.{ContentInfo}
use Rattle.asn1_core.specs.Sets.{Each}
use Rattle.rekey_core.specs.Unlocking.{HoldsBy, Unlocking}
use Rattle.std.proofs.lemmas.Result.{err_from_is_err_and}
use Rattle.rekey_core.specs.Sealing.{ContentsSealed, SuppliesAll}
use Rattle.rekey_core.proofs.Making.{contents_write, long_contents, long_store, room_of, salt_left, supply_of, text_sealed}
use Rattle.rekey_core.proofs.password_change.sealed_text.Goals as goal

pub derive_for-requires : goal.derive_for-requires
derive_for-requires c = rw (c.as_slice-bags.ensures) (room_of c.args.to c.args.contents.now c.args.opened.now.contents c.args.drawn.now c.requires.drawn)

pub seal_contents-requires-clause-room : goal.seal_contents-requires-clause-room
seal_contents-requires-clause-room c = rw (c.as_slice-bags.ensures) (room_of c.args.to c.args.contents.now c.args.opened.now.contents c.args.drawn.now c.requires.drawn)

pub returns-in_err-contents-clause-err : goal.returns-in_err-contents-clause-err
returns-in_err-contents-clause-err c =
    let p = err_from_is_err_and c.from_residual-in_err-contents.result c.from_residual-in_err-contents.ensures.1 in
    rw (p.1, p.2) (long_contents c.args.to c.args.version (mac_kind c.args.mac) c.args.contents.now c.args.opened.now.contents c.args.opened.now.keys c.in_err-contents.field-0.0
    (rw (sym c.as_slice-bags.ensures, sym c.as_slice-keys.ensures) c.in_err-contents.ensures.err))

pub next_drawn-salt-requires : goal.next_drawn-salt-requires
next_drawn-salt-requires c =
    let left = salt_left c.args.to c.args.contents.now c.args.opened.now.contents c.args.drawn.now c.seal_contents.new.supply.drawn.now c.requires.drawn (rw (sym c.as_slice-bags.ensures) c.in_ok-contents.ensures.used) in
    omega (arith, left, c.mac_salt.ensures.value)

pub store_text-requires-clause-writable : goal.store_text-requires-clause-writable
store_text-requires-clause-writable c =
    let h = c.requires.open.2 in
    let all : (u : Unlocking) (k : List (List ℕ)) → Each (HoldsBy u) c.args.contents.now c.args.opened.now.contents → SuppliesAll u c.args.opened.now.contents c.args.opened.now.keys k
    → ContentsSealed c.args.to u c.args.new.now c.args.contents.now c.args.drawn.now c.seal_contents.new.supply.drawn.now c.in_ok-contents.contents = rw (sym c.as_slice-bags.ensures, sym c.as_slice-keys.ensures) c.in_ok-contents.ensures.sealed in
    let s = all c.requires.open.0 [] h.bags (supply_of c.requires.open.0 c.args.contents.now c.args.opened.now.contents c.args.opened.now.keys h) in
    subst (λ (l : List ContentInfo). All WritableContent l) (sym c.as_slice-2.ensures)
    (contents_write c.args.to c.requires.open.0 c.requires.lists.0 c.args.new.now c.args.contents.now c.in_ok-contents.contents c.args.drawn.now c.seal_contents.new.supply.drawn.now c.requires.lists.1 s)

pub returns-in-Ok-clause-sealed : goal.returns-in-Ok-clause-sealed
returns-in-Ok-clause-sealed c =
    let all : (u : Unlocking) (k : List (List ℕ)) → Each (HoldsBy u) c.args.contents.now c.args.opened.now.contents → SuppliesAll u c.args.opened.now.contents c.args.opened.now.keys k
    → ContentsSealed c.args.to u c.args.new.now c.args.contents.now c.args.drawn.now c.seal_contents.new.supply.drawn.now c.as_slice-2.result.now = rw (c.as_slice-2.ensures, sym c.as_slice-bags.ensures, sym c.as_slice-keys.ensures) c.in_ok-contents.ensures.sealed in
    let left = salt_left c.args.to c.args.contents.now c.args.opened.now.contents c.args.drawn.now c.seal_contents.new.supply.drawn.now c.requires.drawn (rw (sym c.as_slice-bags.ensures) c.in_ok-contents.ensures.used) in
    λ u h. text_sealed c.args.to u c.args.new.now c.args.version (mac_kind c.args.mac) c.args.contents.now c.as_slice-2.result.now c.args.opened.now.contents c.args.opened.now.keys c.args.drawn.now
    c.seal_contents.new.supply.drawn.now c.next_drawn-salt.result.now c.next_drawn-salt.new.self.drawn.now c.in-Ok.text all left c.next_drawn-salt.ensures.front (c.next_drawn-salt.ensures.long ∙ c.mac_salt.ensures.value) c.in-Ok.ensures.ok h

pub returns-clause-err : goal.returns-clause-err
returns-clause-err c =
    let all : (u : Unlocking) (k : List (List ℕ)) → Each (HoldsBy u) c.args.contents.now c.args.opened.now.contents → SuppliesAll u c.args.opened.now.contents c.args.opened.now.keys k
    → ContentsSealed c.args.to u c.args.new.now c.args.contents.now c.args.drawn.now c.seal_contents.new.supply.drawn.now c.as_slice-2.result.now = rw (c.as_slice-2.ensures, sym c.as_slice-bags.ensures, sym c.as_slice-keys.ensures) c.in_ok-contents.ensures.sealed in
    long_store c.args.to c.args.new.now c.args.version (mac_kind c.args.mac) c.args.contents.now c.as_slice-2.result.now c.args.opened.now.contents c.args.opened.now.keys c.args.drawn.now
    c.seal_contents.new.supply.drawn.now c.next_drawn-salt.result.now c.in-Err.e all (c.next_drawn-salt.ensures.long ∙ c.mac_salt.ensures.value) (kind_known c.args.mac) c.in-Err.ensures.err
