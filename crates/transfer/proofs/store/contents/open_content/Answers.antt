use Rattle.std.proofs.Common.{arith, subst, ap}
use Rattle.std.proofs.lemmas.Result.{err_from_is_err_and}
use Rattle.p12.specs.SafeBag.{IsBags, NoBags}
use Rattle.p12.specs.ContentView.{seen_content}
use Rattle.transfer.specs.Opening.{content_share}
use Rattle.transfer.proofs.ContentsInPlace.{encrypted_bad, encrypted_opens}
use Rattle.transfer.proofs.Overwriting.{between_place}
use Rattle.transfer.proofs.store.contents.open_content.Goals as goal

pub returns-in_ok-check_bags-in-Encrypted-clause-opened : goal.returns-in_ok-check_bags-in-Encrypted-clause-opened
returns-in_ok-check_bags-in-Encrypted-clause-opened g c =
    let o = c.in_ok-plain-in-Encrypted.ensures.opened in
    let b = c.in_ok-check_bags-in-Encrypted.ensures.ok in
    let share = ap (λ v. content_share (seen_content v)) c.in-Encrypted.is in (
      encrypted_opens c.args.password.now c.args.text.now c.open_lock.new.text c.args.content.now c.in-Encrypted.algorithm c.in-Encrypted.content c.in-Encrypted.at c.in_ok-plain-in-Encrypted.plain b.0 c.in-Encrypted.is c.requires.stands
          o.2 o.0 o.1 c.in_ok-plain-in-Encrypted.ensures.kept (subst (λ t. IsBags t b.0) (between_place c.in_ok-plain-in-Encrypted.plain c.open_lock.new.text) b.1),
      (o.3.0, omega (arith, o.3.1, share)),
      omega (arith, o.4, share),
    )

pub returns-in_err-check_bags-in-Encrypted-clause-refused : goal.returns-in_err-check_bags-in-Encrypted-clause-refused
returns-in_err-check_bags-in-Encrypted-clause-refused g c =
    let o = c.in_ok-plain-in-Encrypted.ensures.opened in
    let e = c.in_err-check_bags-in-Encrypted.ensures.err in
    let p = err_from_is_err_and c.from_residual-in_err-check_bags-in-Encrypted.result c.from_residual-in_err-check_bags-in-Encrypted.ensures.1 in
    rw (p.1, p.2) (encrypted_bad c.args.password.now c.args.budget.now.limit c.args.budget.now.spent c.args.text.now _ c.args.content.now c.in-Encrypted.algorithm c.in-Encrypted.content c.in-Encrypted.at _ _ c.in_err-check_bags-in-Encrypted.field-0.0 c.in-Encrypted.is c.requires.stands
    o.2 (omega (arith, o.3.0, o.3.1, c.open_lock.new.budget.within)) o.4 e.0 (subst NoBags (between_place c.in_ok-plain-in-Encrypted.plain c.open_lock.new.text) e.1))
