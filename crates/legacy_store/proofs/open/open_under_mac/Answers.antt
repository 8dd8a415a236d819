use Rattle.std.proofs.Common.{◌≡◌, ◌∙◌, ◌+◌, ◌≤◌, ◌<◌, ℕ, List, ap, arith, sym, true, false, length}
use Rattle.std.proofs.lemmas.Result.{err_from_is_err_and}
use Rattle.legacy_store.specs.Mac.{is_legacy_digest, legacy_agrees, mac_cost, mac_count}
use Rattle.pkcs12_kdf.specs.Password.{bmp_password}
use Rattle.transfer.specs.declared.store.error.TransferError.{TransferError}
use Rattle.transfer.specs.Opening.{RefusedAfter, opened, refused}
use Rattle.transfer.specs.OpenedSafe.{BagsAndKeys}
use Rattle.legacy_store.specs.Forms.{Forms, forms_of}
use Rattle.legacy_store.specs.Opening.{LegacyMacTable, LegacyTextTable, NullTable}
use Rattle.transfer.proofs.Faults.{refused_later}
use Rattle.legacy_store.proofs.Results.{if_err, if_ok}
use Rattle.legacy_store.proofs.Rows.{agreed, disagreed, mac_unsupported, no_rounds, text_as, too_much}
use Rattle.legacy_store.proofs.open.open_under_mac.Goals as goal

-- the two forms of a password
abbrev with_units : List ℕ → List ℕ → Forms
with_units p q = record { utf8 = p; units = q; has_mac = true }

pub returns-then-not-is_legacy_digest-clause-refused : goal.returns-then-not-is_legacy_digest-clause-refused
returns-then-not-is_legacy_digest-clause-refused g c =
    (0, mac_unsupported c.args.password.now c.args.limit c.args.text.now c.args.mac.now (grind (arith, c.is_legacy_digest.ensures, c.if-not-is_legacy_digest.true)), omega arith)

pub returns-then-mac_count-eq0-clause-refused : goal.returns-then-mac_count-eq0-clause-refused
returns-then-mac_count-eq0-clause-refused g c =
    (0, no_rounds c.args.password.now c.args.limit c.args.text.now c.args.mac.now (grind (arith, c.is_legacy_digest.ensures, c.if-not-is_legacy_digest.false)) (grind (arith, c.if-mac_count-eq0.true, c.mac_count.ensures)), omega arith)

pub returns-in_err-share-clause-refused : goal.returns-in_err-share-clause-refused
returns-in_err-share-clause-refused g c =
    let p = err_from_is_err_and c.from_residual.result c.from_residual.ensures.1 in
    let e = c.in_err-share.ensures.err in
    let s : is_legacy_digest c.args.mac.now.mac.digest_algorithm ≡ true = grind (arith, c.is_legacy_digest.ensures, c.if-not-is_legacy_digest.false) in
    rw (p.1, p.2) (rw (e.0) (0, too_much c.args.password.now c.args.limit c.args.text.now c.args.mac.now s (grind (arith, c.if-mac_count-eq0.false, c.mac_count.ensures)) (grind (arith, e.1, c.new-budget.ensures.0, c.new-budget.ensures.1, c.mac_cost.ensures)), omega arith))

pub agrees-requires-clause-known : goal.agrees-requires-clause-known
agrees-requires-clause-known g c = grind (arith, c.is_legacy_digest.ensures, c.if-not-is_legacy_digest.false)

pub agrees-requires-clause-units : goal.agrees-requires-clause-units
agrees-requires-clause-units g c = omega (arith, ap length c.as_slice.ensures, c.in_ok-units.ensures.size, c.requires.password)

pub open_listed-requires-clause-units : goal.open_listed-requires-clause-units
open_listed-requires-clause-units g c = omega (arith, ap length c.as_slice.ensures, c.in_ok-units.ensures.size, c.requires.password)

pub returns-then-good-clause-opened : goal.returns-then-good-clause-opened
returns-then-good-clause-opened g c =
    let a = c.args in
    let m = a.mac.now in
    let q = c.as_slice.result.now in
    let s : is_legacy_digest m.mac.digest_algorithm ≡ true = grind (arith, c.is_legacy_digest.ensures, c.if-not-is_legacy_digest.false) in
    let some : 0 < mac_count m = grind (arith, c.if-mac_count-eq0.false, c.mac_count.ensures) in
    let o = c.in_ok-share.ensures.ok in
    let b = c.share.new.self in
    let limit : b.limit ≡ a.limit = grind (arith, o.0, c.new-budget.ensures.0) in
    let spent : b.spent ≡ mac_cost m = grind (arith, o.1, c.new-budget.ensures.1, c.mac_cost.ensures) in
    let most : mac_cost m ≤ a.limit = grind (arith, limit, spent, b.within) in
    let units : q ≡ bmp_password a.password.now = c.as_slice.ensures ∙ c.in_ok-units.ensures.ok in
    let good : legacy_agrees m (forms_of a.password.now) a.text.now ≡ true = ap (λ u. legacy_agrees m (with_units a.password.now u) a.text.now) (sym units) ∙ sym c.in_ok-good.ensures.value ∙ c.if-good.true in
    if_ok (λ (r : BagsAndKeys). (n : ℕ) × LegacyTextTable (with_units a.password.now q) b.limit b.spent a.text.now (opened r.contents r.keys) (b.spent + n) × (c.open_listed.new.steps ≡ c.agrees.new.steps + n))
    (λ (r : BagsAndKeys). (n : ℕ) × LegacyMacTable a.password.now a.limit a.text.now m (opened r.contents r.keys) n × (c.open_listed.new.steps ≡ a.steps.now + n)) c.open_listed.result
    (λ r h. (
      mac_cost m + h.0,
      agreed a.password.now a.limit a.text.now m (opened r.contents r.keys) (mac_cost m + h.0) s some most good
          (text_as (with_units a.password.now q) (forms_of a.password.now) b.limit a.limit b.spent (mac_cost m) a.text.now (opened r.contents r.keys) (b.spent + h.0) (mac_cost m + h.0) (ap (with_units a.password.now) units) limit spent (omega (arith, spent)) h.1),
      omega (arith, c.in_ok-good.ensures.steps, h.2),
    )) c.open_listed.ensures.opened

pub returns-then-good-clause-refused : goal.returns-then-good-clause-refused
returns-then-good-clause-refused g c =
    let a = c.args in
    let m = a.mac.now in
    let q = c.as_slice.result.now in
    let s : is_legacy_digest m.mac.digest_algorithm ≡ true = grind (arith, c.is_legacy_digest.ensures, c.if-not-is_legacy_digest.false) in
    let some : 0 < mac_count m = grind (arith, c.if-mac_count-eq0.false, c.mac_count.ensures) in
    let o = c.in_ok-share.ensures.ok in
    let b = c.share.new.self in
    let limit : b.limit ≡ a.limit = grind (arith, o.0, c.new-budget.ensures.0) in
    let spent : b.spent ≡ mac_cost m = grind (arith, o.1, c.new-budget.ensures.1, c.mac_cost.ensures) in
    let most : mac_cost m ≤ a.limit = grind (arith, limit, spent, b.within) in
    let units : q ≡ bmp_password a.password.now = c.as_slice.ensures ∙ c.in_ok-units.ensures.ok in
    let good : legacy_agrees m (forms_of a.password.now) a.text.now ≡ true = ap (λ u. legacy_agrees m (with_units a.password.now u) a.text.now) (sym units) ∙ sym c.in_ok-good.ensures.value ∙ c.if-good.true in
    let F = λ (e : TransferError) (n : ℕ). LegacyTextTable (with_units a.password.now q) b.limit b.spent a.text.now (refused e) (b.spent + n) in
    let G = λ (e : TransferError) (n : ℕ). LegacyMacTable a.password.now a.limit a.text.now m (refused e) n in
    if_err (RefusedAfter F c.agrees.new.steps c.open_listed.new.steps) (RefusedAfter G a.steps.now c.open_listed.new.steps) c.open_listed.result
    (λ e h. refused_later F G a.steps.now c.agrees.new.steps c.open_listed.new.steps (mac_cost m) c.in_ok-good.ensures.steps
    (λ e n t. agreed a.password.now a.limit a.text.now m (refused e) (mac_cost m + n) s some most good
    (text_as (with_units a.password.now q) (forms_of a.password.now) b.limit a.limit b.spent (mac_cost m) a.text.now (refused e) (b.spent + n) (mac_cost m + n) (ap (with_units a.password.now) units) limit spent (omega (arith, spent)) t)) e h)
    c.open_listed.ensures.refused

pub open_null-requires-clause-known : goal.open_null-requires-clause-known
open_null-requires-clause-known g c = grind (arith, c.is_legacy_digest.ensures, c.if-not-is_legacy_digest.false)

pub open_null-requires-clause-spent : goal.open_null-requires-clause-spent
open_null-requires-clause-spent g c = let o = c.in_ok-share.ensures.ok in grind (arith, o.1, c.new-budget.ensures.1, c.mac_cost.ensures)

pub returns-clause-opened : goal.returns-clause-opened
returns-clause-opened g c =
    let a = c.args in
    let m = a.mac.now in
    let s : is_legacy_digest m.mac.digest_algorithm ≡ true = grind (arith, c.is_legacy_digest.ensures, c.if-not-is_legacy_digest.false) in
    let some : 0 < mac_count m = grind (arith, c.if-mac_count-eq0.false, c.mac_count.ensures) in
    let o = c.in_ok-share.ensures.ok in
    let b = c.share.new.self in
    let limit : b.limit ≡ a.limit = grind (arith, o.0, c.new-budget.ensures.0) in
    let spent : b.spent ≡ mac_cost m = grind (arith, o.1, c.new-budget.ensures.1, c.mac_cost.ensures) in
    let most : mac_cost m ≤ a.limit = grind (arith, limit, spent, b.within) in
    let units : c.as_slice.result.now ≡ bmp_password a.password.now = c.as_slice.ensures ∙ c.in_ok-units.ensures.ok in
    let bad : legacy_agrees m (forms_of a.password.now) a.text.now ≡ false = ap (λ u. legacy_agrees m (with_units a.password.now u) a.text.now) (sym units) ∙ sym c.in_ok-good.ensures.value ∙ c.if-good.false in
    if_ok (λ (r : BagsAndKeys). (n : ℕ) × NullTable a.password.now b.limit a.text.now m (opened r.contents r.keys) (mac_cost m + n) × (c.open_null.new.steps ≡ c.agrees.new.steps + n))
    (λ (r : BagsAndKeys). (n : ℕ) × LegacyMacTable a.password.now a.limit a.text.now m (opened r.contents r.keys) n × (c.open_null.new.steps ≡ a.steps.now + n)) c.open_null.result
    (λ r h. (
      mac_cost m + h.0,
      disagreed a.password.now a.limit a.text.now m (opened r.contents r.keys) (mac_cost m + h.0) s some most bad
          (rw (← limit) h.1),
      omega (arith, c.in_ok-good.ensures.steps, h.2),
    )) c.open_null.ensures.opened

pub returns-clause-refused : goal.returns-clause-refused
returns-clause-refused g c =
    let a = c.args in
    let m = a.mac.now in
    let s : is_legacy_digest m.mac.digest_algorithm ≡ true = grind (arith, c.is_legacy_digest.ensures, c.if-not-is_legacy_digest.false) in
    let some : 0 < mac_count m = grind (arith, c.if-mac_count-eq0.false, c.mac_count.ensures) in
    let o = c.in_ok-share.ensures.ok in
    let b = c.share.new.self in
    let limit : b.limit ≡ a.limit = grind (arith, o.0, c.new-budget.ensures.0) in
    let spent : b.spent ≡ mac_cost m = grind (arith, o.1, c.new-budget.ensures.1, c.mac_cost.ensures) in
    let most : mac_cost m ≤ a.limit = grind (arith, limit, spent, b.within) in
    let units : c.as_slice.result.now ≡ bmp_password a.password.now = c.as_slice.ensures ∙ c.in_ok-units.ensures.ok in
    let bad : legacy_agrees m (forms_of a.password.now) a.text.now ≡ false = ap (λ u. legacy_agrees m (with_units a.password.now u) a.text.now) (sym units) ∙ sym c.in_ok-good.ensures.value ∙ c.if-good.false in
    let F = λ (e : TransferError) (n : ℕ). NullTable a.password.now b.limit a.text.now m (refused e) (mac_cost m + n) in
    let G = λ (e : TransferError) (n : ℕ). LegacyMacTable a.password.now a.limit a.text.now m (refused e) n in
    if_err (RefusedAfter F c.agrees.new.steps c.open_null.new.steps) (RefusedAfter G a.steps.now c.open_null.new.steps) c.open_null.result
    (λ e h. refused_later F G a.steps.now c.agrees.new.steps c.open_null.new.steps (mac_cost m) c.in_ok-good.ensures.steps
    (λ e n t. disagreed a.password.now a.limit a.text.now m (refused e) (mac_cost m + n) s some most bad (rw (← limit) t)) e h)
    c.open_null.ensures.refused

pub agrees-requires-clause-rounds : goal.agrees-requires-clause-rounds
agrees-requires-clause-rounds g c = grind (arith, c.if-mac_count-eq0.false, c.mac_count.ensures)

pub open_null-requires-clause-rounds : goal.open_null-requires-clause-rounds
open_null-requires-clause-rounds g c = grind (arith, c.if-mac_count-eq0.false, c.mac_count.ensures)
