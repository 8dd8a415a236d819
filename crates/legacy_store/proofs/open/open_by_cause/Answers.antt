use Rattle.std.proofs.Common.{◌≡◌, ◌+◌, ◌≤◌, ◌-◌, ◌^◌, ℕ, List, ap, arith, subst, length}
use Rattle.std.specs.Prelude.{Option, IfSome}
use Rattle.std.proofs.lemmas.Result.{err_from_is_err_and}
use Rattle.legacy_store.specs.Texts.{NoLegacyStore}
use Rattle.p12.specs.ContentInfo.{ContentFits}
use Rattle.p12.specs.declared.mac_data.MacData.{MacData}
use Rattle.transfer.specs.declared.store.error.TransferError.{TransferError}
use Rattle.transfer.specs.Opening.{RefusedAfter, opened, refused}
use Rattle.transfer.specs.OpenedSafe.{BagsAndKeys}
use Rattle.legacy_store.specs.Opening.{BareTable, HasVerdictUnder, LegacyMacTable}
use Rattle.transfer.proofs.Faults.{refused_after_as}
use Rattle.legacy_store.proofs.Results.{if_err, if_ok}
use Rattle.legacy_store.proofs.Rows.{has_mac, has_store, malformed_so, no_data, no_mac, no_store, too_long}
use Rattle.legacy_store.proofs.open.open_by_cause.Goals as goal

pub returns-then-store-gt-STORE_LIMIT-clause-refused : goal.returns-then-store-gt-STORE_LIMIT-clause-refused
returns-then-store-gt-STORE_LIMIT-clause-refused g c = (0, too_long c.args.rule c.args.store.now c.args.password.now c.args.limit (grind arith), omega arith)

pub returns-in_err-found-clause-refused : goal.returns-in_err-found-clause-refused
returns-in_err-found-clause-refused g c =
    let p = err_from_is_err_and c.from_residual.result c.from_residual.ensures.1 in
    let F = λ (e : TransferError) (n : ℕ). HasVerdictUnder c.args.rule c.args.store.now c.args.password.now c.args.limit (refused e) n in
    rw (p.1, p.2) (malformed_so F (NoLegacyStore c.args.store.now) c.args.steps.now c.args.steps.now
    (λ none. no_store c.args.rule c.args.store.now c.args.password.now c.args.limit (grind arith) none) (omega arith) c.in_err-found.field-0.0 c.in_err-found.ensures.err)

pub returns-in_default-clause-refused : goal.returns-in_default-clause-refused
returns-in_default-clause-refused g c = (
  0,
  has_store c.args.rule c.args.store.now c.args.password.now c.args.limit c.in_ok-found.found _ _ (grind arith) c.in_ok-found.ensures.ok
      (no_data c.args.rule c.args.password.now c.args.limit c.in_ok-found.found (λ v h. c.in_default.not-Data v h)),
  omega arith,
)

pub open_bare-requires-clause-text : goal.open_bare-requires-clause-text
open_bare-requires-clause-text g c =
    let fits = subst (ContentFits (2 ^ 32 - 1)) c.in-Data.is c.in_ok-found.ensures.fits.0 in
    omega (arith, fits.0, ap length c.as_slice-octets.ensures)

pub returns-in_default-mac_data-clause-opened : goal.returns-in_default-mac_data-clause-opened
returns-in_default-mac_data-clause-opened g c =
    let a = c.args in
    if_ok (λ (r : BagsAndKeys). (n : ℕ) × BareTable a.rule a.password.now a.limit c.as_slice-octets.result.now (opened r.contents r.keys) n × (c.open_bare.new.steps ≡ a.steps.now + n))
    (λ (r : BagsAndKeys). (n : ℕ) × HasVerdictUnder a.rule a.store.now a.password.now a.limit (opened r.contents r.keys) n × (c.open_bare.new.steps ≡ a.steps.now + n)) c.open_bare.result
    (λ r h. (
      h.0,
      has_store a.rule a.store.now a.password.now a.limit c.in_ok-found.found (opened r.contents r.keys) h.0 (grind arith) c.in_ok-found.ensures.ok
          (no_mac a.rule a.password.now a.limit c.in_ok-found.found c.in-Data.text (opened r.contents r.keys) h.0 c.in-Data.is c.in_default-mac_data.is
          (subst (λ (t : List ℕ). BareTable a.rule a.password.now a.limit t (opened r.contents r.keys) h.0) c.as_slice-octets.ensures h.1)),
      h.2,
    )) c.open_bare.ensures.opened

pub returns-in_default-mac_data-clause-refused : goal.returns-in_default-mac_data-clause-refused
returns-in_default-mac_data-clause-refused g c =
    let a = c.args in
    let F = λ (e : TransferError) (n : ℕ). BareTable a.rule a.password.now a.limit c.as_slice-octets.result.now (refused e) n in
    let G = λ (e : TransferError) (n : ℕ). HasVerdictUnder a.rule a.store.now a.password.now a.limit (refused e) n in
    if_err (RefusedAfter F a.steps.now c.open_bare.new.steps) (RefusedAfter G a.steps.now c.open_bare.new.steps) c.open_bare.result
    (λ e h. refused_after_as F G a.steps.now c.open_bare.new.steps
    (λ e n t. has_store a.rule a.store.now a.password.now a.limit c.in_ok-found.found (refused e) n (grind arith) c.in_ok-found.ensures.ok
    (no_mac a.rule a.password.now a.limit c.in_ok-found.found c.in-Data.text (refused e) n c.in-Data.is c.in_default-mac_data.is
    (subst (λ (x : List ℕ). BareTable a.rule a.password.now a.limit x (refused e) n) c.as_slice-octets.ensures t))) e h)
    c.open_bare.ensures.refused

pub open_under_mac-requires-clause-text : goal.open_under_mac-requires-clause-text
open_under_mac-requires-clause-text g c =
    let fits = subst (ContentFits (2 ^ 32 - 1)) c.in-Data.is c.in_ok-found.ensures.fits.0 in
    omega (arith, fits.0, ap length c.as_slice-octets.ensures)

pub open_under_mac-requires-clause-salt : goal.open_under_mac-requires-clause-salt
open_under_mac-requires-clause-salt g c =
    let fits = subst (λ (o : Option MacData). IfSome o (λ m. length m.salt ≤ 2 ^ 32 - 1)) c.in-Some.is c.in_ok-found.ensures.fits.1 in
    omega (arith, fits)

pub returns-clause-opened : goal.returns-clause-opened
returns-clause-opened g c =
    let a = c.args in
    let v = c.in-Data.text in
    let m = c.in-Some.mac in
    if_ok (λ (r : BagsAndKeys). (n : ℕ) × LegacyMacTable a.password.now a.limit c.as_slice-octets.result.now m (opened r.contents r.keys) n × (c.open_under_mac.new.steps ≡ a.steps.now + n))
    (λ (r : BagsAndKeys). (n : ℕ) × HasVerdictUnder a.rule a.store.now a.password.now a.limit (opened r.contents r.keys) n × (c.open_under_mac.new.steps ≡ a.steps.now + n)) c.open_under_mac.result
    (λ r h. (
      h.0,
      has_store a.rule a.store.now a.password.now a.limit c.in_ok-found.found (opened r.contents r.keys) h.0 (grind arith) c.in_ok-found.ensures.ok
          (has_mac a.rule a.password.now a.limit c.in_ok-found.found v m (opened r.contents r.keys) h.0 c.in-Data.is c.in-Some.is
          (subst (λ (t : List ℕ). LegacyMacTable a.password.now a.limit t m (opened r.contents r.keys) h.0) c.as_slice-octets.ensures h.1)),
      h.2,
    )) c.open_under_mac.ensures.opened

pub returns-clause-refused : goal.returns-clause-refused
returns-clause-refused g c =
    let a = c.args in
    let v = c.in-Data.text in
    let m = c.in-Some.mac in
    let F = λ (e : TransferError) (n : ℕ). LegacyMacTable a.password.now a.limit c.as_slice-octets.result.now m (refused e) n in
    let G = λ (e : TransferError) (n : ℕ). HasVerdictUnder a.rule a.store.now a.password.now a.limit (refused e) n in
    if_err (RefusedAfter F a.steps.now c.open_under_mac.new.steps) (RefusedAfter G a.steps.now c.open_under_mac.new.steps) c.open_under_mac.result
    (λ e h. refused_after_as F G a.steps.now c.open_under_mac.new.steps
    (λ e n t. has_store a.rule a.store.now a.password.now a.limit c.in_ok-found.found (refused e) n (grind arith) c.in_ok-found.ensures.ok
    (has_mac a.rule a.password.now a.limit c.in_ok-found.found v m (refused e) n c.in-Data.is c.in-Some.is (subst (λ (x : List ℕ). LegacyMacTable a.password.now a.limit x m (refused e) n) c.as_slice-octets.ensures t))) e h)
    c.open_under_mac.ensures.refused
