use Rattle.std.proofs.Common.{◌≡◌, ◌∙◌, ap, arith, length, length-take, subst, sym, take}
use Rattle.std.specs.Prelude.{Some}
use Rattle.std.proofs.lemmas.Result.{err_from_is_err_and}
use Rattle.p12.specs.AlgorithmIdentifier.{unlock}
use Rattle.p12.specs.AlgorithmView.{seen_algorithm}
use Rattle.transfer.specs.Opening.{IsKeyText, KeyFault, NoKeyText, RefusedAfter, key_with}
use Rattle.transfer.proofs.Faults.{key_bad}
use Rattle.transfer.proofs.Overwriting.{lent_whole}
use Rattle.transfer.proofs.StoredKeys.{text_stored}
use Rattle.transfer.proofs.store.bag_keys.open_copy.Goals as goal

pub returns-in_err-check_key-clause-refused : goal.returns-in_err-check_key-clause-refused
returns-in_err-check_key-clause-refused g c =
    let p = err_from_is_err_and c.from_residual-in_err-check_key.result c.from_residual-in_err-check_key.ensures.1 in
    let o = c.in_ok-len.ensures.opened in
    let e = c.in_err-check_key.ensures.err in
    let b = c.args.budget.now in
    let a = seen_algorithm c.args.algorithm.now in
    let k = key_with a c.args.content.now in
    let size : length c.open_front.new.text ≡ length c.in_ok-text.text = omega (arith, c.open_front.auto.text, ap length c.as_mut_slice.ensures.value) in
    let front = take c.in_ok-len.len c.open_front.new.text in
    let is = c.as_slice.ensures ∙ c.truncate.ensures ∙ ap (take c.in_ok-len.len) (lent_whole c.open_front.new.text c.in_ok-text.text size) in
    let opens = ap (unlock a c.args.password.now) (sym (c.as_mut_slice.ensures.value ∙ c.in_ok-text.ensures)) ∙ o.1 in
    rw (p.1, p.2) (subst (λ e. RefusedAfter (KeyFault c.args.password.now b.limit b.spent k) c.args.steps.now c.open_front.new.steps e) (sym e.0)
    (_, key_bad c.args.password.now b.limit b.spent k front opens (omega (arith, o.2.0, o.2.1, c.open_front.new.budget.within)) (subst NoKeyText is e.1), o.3))

pub returns-clause-opened : goal.returns-clause-opened
returns-clause-opened g c =
    let o = c.in_ok-len.ensures.opened in
    let a = seen_algorithm c.args.algorithm.now in
    let size : length c.open_front.new.text ≡ length c.in_ok-text.text = omega (arith, c.open_front.auto.text, ap length c.as_mut_slice.ensures.value) in
    let is = c.truncate.ensures ∙ ap (take c.in_ok-len.len) (lent_whole c.open_front.new.text c.in_ok-text.text size) in
    let opens = ap (unlock a c.args.password.now) (sym (c.as_mut_slice.ensures.value ∙ c.in_ok-text.ensures)) ∙ o.1 in
    ((opens ∙ ap Some (sym is), subst IsKeyText c.as_slice.ensures c.in_ok-check_key.ensures.ok), o.2, o.3)

pub returns-clause-stored : goal.returns-clause-stored
returns-clause-stored g c =
    let size : length c.open_front.new.text ≡ length c.in_ok-text.text = omega (arith, c.open_front.auto.text, ap length c.as_mut_slice.ensures.value) in
    let is = c.truncate.ensures ∙ ap (take c.in_ok-len.len) (lent_whole c.open_front.new.text c.in_ok-text.text size) in
    text_stored _ (subst IsKeyText c.as_slice.ensures c.in_ok-check_key.ensures.ok)
    (omega (arith, c.requires.text, ap length is, size, ap length c.in_ok-text.ensures, length-take c.in_ok-len.len c.open_front.new.text))
