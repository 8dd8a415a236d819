use Rattle.std.proofs.Common.{◌≡◌, ◌+◌, ◌≤◌, ℕ, ap, arith, refl, true, length}
use Rattle.std.proofs.lemmas.List.{nil_from_length}
use Rattle.std.proofs.lemmas.Result.{err_from_is_err_and}
use Rattle.legacy_store.specs.Mac.{legacy_agrees, mac_cost}
use Rattle.transfer.specs.declared.store.error.TransferError.{TransferError}
use Rattle.transfer.specs.Opening.{RefusedAfter, opened, refused}
use Rattle.transfer.specs.OpenedSafe.{BagsAndKeys}
use Rattle.legacy_store.specs.Forms.{null_forms}
use Rattle.legacy_store.specs.Opening.{LegacyTextTable, NullTable}
use Rattle.transfer.proofs.Faults.{refused_later}
use Rattle.legacy_store.proofs.Results.{if_err, if_ok}
use Rattle.legacy_store.proofs.Rows.{not_empty, null_agreed, null_mismatch, null_too_much, text_as}
use Rattle.legacy_store.proofs.open.open_null.Goals as goal

pub returns-then-password-gt0-clause-refused : goal.returns-then-password-gt0-clause-refused
returns-then-password-gt0-clause-refused g c =
    let a = c.args in
    (0, not_empty a.password.now a.allowed.limit a.text.now a.mac.now (λ e. omega (arith, ap length e, c.if-password-gt0.true)), omega arith)

pub returns-in_err-share-clause-refused : goal.returns-in_err-share-clause-refused
returns-in_err-share-clause-refused g c =
    let p = err_from_is_err_and c.from_residual.result c.from_residual.ensures.1 in
    let a = c.args in
    let e = c.in_err-share.ensures.err in
    let none = nil_from_length a.password.now (omega (arith, c.if-password-gt0.false)) in
    rw (p.1, p.2) (rw (e.0) (0, null_too_much a.password.now a.allowed.limit a.text.now a.mac.now none (grind (arith, e.1, c.requires.spent, c.mac_cost.ensures)), omega arith))

pub returns-then-not-good-clause-refused : goal.returns-then-not-good-clause-refused
returns-then-not-good-clause-refused g c =
    let a = c.args in
    let none = nil_from_length a.password.now (omega (arith, c.if-password-gt0.false)) in
    let o = c.in_ok-share.ensures.ok in
    let within : mac_cost a.mac.now + mac_cost a.mac.now ≤ a.allowed.limit = grind (arith, o.0, o.1, c.share.new.self.within, c.requires.spent, c.mac_cost.ensures) in
    (mac_cost a.mac.now, null_mismatch a.password.now a.allowed.limit a.text.now a.mac.now none within (grind (arith, c.in_ok-good.ensures.value, c.if-not-good.true)), c.in_ok-good.ensures.steps)

pub returns-clause-opened : goal.returns-clause-opened
returns-clause-opened g c =
    let a = c.args in
    let m = a.mac.now in
    let none = nil_from_length a.password.now (omega (arith, c.if-password-gt0.false)) in
    let o = c.in_ok-share.ensures.ok in
    let b = c.share.new.self in
    let spent : b.spent ≡ mac_cost m + mac_cost m = grind (arith, o.1, c.requires.spent, c.mac_cost.ensures) in
    let within : mac_cost m + mac_cost m ≤ a.allowed.limit = grind (arith, o.0, spent, b.within) in
    let good : legacy_agrees m null_forms a.text.now ≡ true = grind (arith, c.in_ok-good.ensures.value, c.if-not-good.false) in
    if_ok (λ (r : BagsAndKeys). (n : ℕ) × LegacyTextTable null_forms b.limit b.spent a.text.now (opened r.contents r.keys) (b.spent + n) × (c.open_listed.new.steps ≡ c.agrees.new.steps + n))
    (λ (r : BagsAndKeys). (n : ℕ) × NullTable a.password.now a.allowed.limit a.text.now m (opened r.contents r.keys) (mac_cost m + n) × (c.open_listed.new.steps ≡ a.steps.now + n)) c.open_listed.result
    (λ r h. (
      mac_cost m + h.0,
      null_agreed a.password.now a.allowed.limit a.text.now m (opened r.contents r.keys) (mac_cost m + (mac_cost m + h.0)) none within good
          (text_as null_forms null_forms b.limit a.allowed.limit b.spent (mac_cost m + mac_cost m) a.text.now (opened r.contents r.keys) (b.spent + h.0) (mac_cost m + (mac_cost m + h.0)) refl o.0 spent (omega (arith, spent)) h.1),
      omega (arith, c.in_ok-good.ensures.steps, h.2),
    )) c.open_listed.ensures.opened

pub returns-clause-refused : goal.returns-clause-refused
returns-clause-refused g c =
    let a = c.args in
    let m = a.mac.now in
    let none = nil_from_length a.password.now (omega (arith, c.if-password-gt0.false)) in
    let o = c.in_ok-share.ensures.ok in
    let b = c.share.new.self in
    let spent : b.spent ≡ mac_cost m + mac_cost m = grind (arith, o.1, c.requires.spent, c.mac_cost.ensures) in
    let within : mac_cost m + mac_cost m ≤ a.allowed.limit = grind (arith, o.0, spent, b.within) in
    let good : legacy_agrees m null_forms a.text.now ≡ true = grind (arith, c.in_ok-good.ensures.value, c.if-not-good.false) in
    let F = λ (e : TransferError) (n : ℕ). LegacyTextTable null_forms b.limit b.spent a.text.now (refused e) (b.spent + n) in
    let G = λ (e : TransferError) (n : ℕ). NullTable a.password.now a.allowed.limit a.text.now m (refused e) (mac_cost m + n) in
    if_err (RefusedAfter F c.agrees.new.steps c.open_listed.new.steps) (RefusedAfter G a.steps.now c.open_listed.new.steps) c.open_listed.result
    (λ e h. refused_later F G a.steps.now c.agrees.new.steps c.open_listed.new.steps (mac_cost m) c.in_ok-good.ensures.steps
    (λ e n t. null_agreed a.password.now a.allowed.limit a.text.now m (refused e) (mac_cost m + (mac_cost m + n)) none within good
    (text_as null_forms null_forms b.limit a.allowed.limit b.spent (mac_cost m + mac_cost m) a.text.now (refused e) (b.spent + n) (mac_cost m + (mac_cost m + n)) refl o.0 spent (omega (arith, spent)) t)) e h)
    c.open_listed.ensures.refused
