use Rattle.std.proofs.Common.{◌≡◌, ◌≤◌, arith, true}
use Rattle.std.proofs.lemmas.Result.{err_from_is_err_and}
use Rattle.p12.specs.AlgorithmView.{seen_algorithm}
use Rattle.p12.specs.MacData.{is_mac_digest}
use Rattle.p12.specs.MacView.{seen_mac}
use Rattle.transfer.proofs.Rows.{mac_counted, mac_unsupported, mismatch, no_rounds, too_much}
use Rattle.transfer.proofs.store.mac.check_mac.Goals as goal

pub returns-then-not-is_mac_digest-clause-refused : goal.returns-then-not-is_mac_digest-clause-refused
returns-then-not-is_mac_digest-clause-refused g c =
    (0, mac_unsupported c.args.password.now c.args.limit c.args.text.now (seen_mac c.args.mac.now) (grind (arith, c.is_mac_digest.ensures, c.if-not-is_mac_digest.true)), omega arith)

pub returns-then-mac-eq0-clause-refused : goal.returns-then-mac-eq0-clause-refused
returns-then-mac-eq0-clause-refused g c =
    (0, no_rounds c.args.password.now c.args.limit c.args.text.now (seen_mac c.args.mac.now) (grind (arith, c.is_mac_digest.ensures, c.if-not-is_mac_digest.false)) (grind (arith, c.if-mac-eq0.true)), omega arith)

pub returns-in_err-share-clause-refused : goal.returns-in_err-share-clause-refused
returns-in_err-share-clause-refused g c =
    let p = err_from_is_err_and c.from_residual.result c.from_residual.ensures.1 in
    let e = c.in_err-share.ensures.err in
    let s : is_mac_digest (seen_algorithm c.args.mac.now.algorithm) ≡ true = grind (arith, c.is_mac_digest.ensures, c.if-not-is_mac_digest.false) in
    rw (p.1, p.2) (rw (e.0) (0, too_much c.args.password.now c.args.limit c.args.text.now (seen_mac c.args.mac.now) s (grind (arith, c.if-mac-eq0.false)) (grind (arith, e.1, c.new-budget.ensures.0, c.new-budget.ensures.1, c.from.ensures)), omega arith))

pub returns-then-not-branch-clause-refused : goal.returns-then-not-branch-clause-refused
returns-then-not-branch-clause-refused g c =
    let s : is_mac_digest (seen_algorithm c.args.mac.now.algorithm) ≡ true = grind (arith, c.is_mac_digest.ensures, c.if-not-is_mac_digest.false) in
    let o = c.in_ok-share.ensures.ok in
    let most : c.args.mac.now.iterations ≤ c.args.limit = grind (arith, o.0, o.1, c.share.new.self.within, c.new-budget.ensures.0, c.new-budget.ensures.1, c.from.ensures) in (
      c.args.mac.now.iterations,
      mismatch c.args.password.now c.args.limit c.args.text.now (seen_mac c.args.mac.now) s (grind (arith, c.if-mac-eq0.false)) most (grind (arith, c.in_ok-verify_mac.ensures.value, c.if-not-branch.true)),
      mac_counted (seen_mac c.args.mac.now) _ _ s c.in_ok-verify_mac.ensures.steps,
    )

pub returns-clause-passed : goal.returns-clause-passed
returns-clause-passed g c =
    let s : is_mac_digest (seen_algorithm c.args.mac.now.algorithm) ≡ true = grind (arith, c.is_mac_digest.ensures, c.if-not-is_mac_digest.false) in
    let o = c.in_ok-share.ensures.ok in
    let counted = mac_counted (seen_mac c.args.mac.now) _ _ s c.in_ok-verify_mac.ensures.steps in (
      record { known = s; some_rounds = grind (arith, c.if-mac-eq0.false); agrees = grind (arith, c.in_ok-verify_mac.ensures.value, c.if-not-branch.false) },
      grind (arith, o.0, c.new-budget.ensures.0),
      grind (arith, o.1, c.new-budget.ensures.1, c.from.ensures),
      counted,
    )
