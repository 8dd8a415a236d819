use Rattle.std.proofs.Common.{◌≡◌, ◌∙◌, ◌+◌, ℕ, List, ap, arith, false, length}
use Rattle.pkcs12_kdf.specs.Password.{bmp_password}
use Rattle.transfer.specs.declared.store.error.TransferError.{TransferError}
use Rattle.transfer.specs.Opening.{RefusedAfter, opened, refused}
use Rattle.transfer.specs.OpenedSafe.{BagsAndKeys}
use Rattle.transfer.proofs.Faults.{refused_after_as}
use Rattle.legacy_store.specs.Forms.{Forms, forms_without_mac}
use Rattle.legacy_store.specs.Opening.{LegacyTextTable}
use Rattle.legacy_store.proofs.Results.{if_err, if_ok}
use Rattle.legacy_store.proofs.Rows.{text_as}
use Rattle.legacy_store.proofs.open.open_without_mac.Goals as goal

-- the two forms of a password
abbrev with_units : List ℕ → List ℕ → Forms
with_units p q = record { utf8 = p; units = q; has_mac = false }

pub open_listed-requires-clause-units : goal.open_listed-requires-clause-units
open_listed-requires-clause-units g c = omega (arith, ap length c.as_slice.ensures, c.in_ok-units.ensures.size, c.requires.password)

pub returns-clause-opened : goal.returns-clause-opened
returns-clause-opened g c =
    let a = c.args in
    let q = c.as_slice.result.now in
    let b = c.new.result in
    let units : q ≡ bmp_password a.password.now = c.as_slice.ensures ∙ c.in_ok-units.ensures.ok in
    let spent : b.spent ≡ 0 = c.new.ensures.1 in
    if_ok (λ (r : BagsAndKeys). (n : ℕ) × LegacyTextTable (with_units a.password.now q) b.limit b.spent a.text.now (opened r.contents r.keys) (b.spent + n) × (c.open_listed.new.steps ≡ a.steps.now + n))
    (λ (r : BagsAndKeys). (n : ℕ) × LegacyTextTable (forms_without_mac a.password.now) a.limit 0 a.text.now (opened r.contents r.keys) n × (c.open_listed.new.steps ≡ a.steps.now + n)) c.open_listed.result
    (λ r h. (
      h.0,
      text_as (with_units a.password.now q) (forms_without_mac a.password.now) b.limit a.limit b.spent 0 a.text.now (opened r.contents r.keys) (b.spent + h.0) h.0 (ap (with_units a.password.now) units) c.new.ensures.0 spent
          (omega (arith, spent)) h.1,
      h.2,
    )) c.open_listed.ensures.opened

pub returns-clause-refused : goal.returns-clause-refused
returns-clause-refused g c =
    let a = c.args in
    let q = c.as_slice.result.now in
    let b = c.new.result in
    let units : q ≡ bmp_password a.password.now = c.as_slice.ensures ∙ c.in_ok-units.ensures.ok in
    let spent : b.spent ≡ 0 = c.new.ensures.1 in
    let F = λ (e : TransferError) (n : ℕ). LegacyTextTable (with_units a.password.now q) b.limit b.spent a.text.now (refused e) (b.spent + n) in
    let G = λ (e : TransferError) (n : ℕ). LegacyTextTable (forms_without_mac a.password.now) a.limit 0 a.text.now (refused e) n in
    if_err (RefusedAfter F a.steps.now c.open_listed.new.steps) (RefusedAfter G a.steps.now c.open_listed.new.steps) c.open_listed.result
    (λ e h. refused_after_as F G a.steps.now c.open_listed.new.steps
    (λ e n t. text_as (with_units a.password.now q) (forms_without_mac a.password.now) b.limit a.limit b.spent 0 a.text.now (refused e) (b.spent + n) n (ap (with_units a.password.now) units) c.new.ensures.0 spent
    (omega (arith, spent)) t) e h)
    c.open_listed.ensures.refused
