use Rattle.std.proofs.Common.{◌∙◌, arith, ap, length, sym, subst, List, ℕ, ◌≡◌}
use Rattle.std.proofs.lemmas.Result.{err_from_is_err_and}
use Rattle.transfer.specs.InPlace.{AreOpened}
use Rattle.transfer.specs.Opening.{HasVerdict}
use Rattle.transfer.proofs.Overwriting.{lent_whole}
use Rattle.transfer.proofs.Rows.{contents_refused_so, contents_so}
use Rattle.transfer.proofs.store.open.open_parts.Goals as goal

pub returns-in_err-places-clause-refused : goal.returns-in_err-places-clause-refused
returns-in_err-places-clause-refused g c =
    let l = c.in_ok-listed.ensures.listed in
    let q = err_from_is_err_and c.from_residual-in_err-places.result c.from_residual-in_err-places.ensures.1 in
    rw (q.1, q.2) (contents_refused_so (HasVerdict c.args.store.now c.args.password.now c.args.limit) c.args.password.now c.args.limit c.in_ok-listed.listed l.0 l.1
    c.args.steps.now c.list_contents.new.steps c.open_contents.new.steps c.in_err-places.field-0.0 l.2 c.in_err-places.ensures.refused)

pub returns-clause-opened : goal.returns-clause-opened
returns-clause-opened g c =
    let l = c.in_ok-listed.ensures.listed in
    let o = c.in_ok-places.ensures.opened in
    let size : length c.open_contents.new.text ≡ length c.in_ok-text.text = omega (arith, c.open_contents.auto.text, ap length c.as_mut_slice-whole.ensures.value) in
    let all = lent_whole c.open_contents.new.text c.in_ok-text.text size in
    let T = HasVerdict c.args.store.now c.args.password.now c.args.limit in (
      subst (λ (t : List ℕ). AreOpened T c.args.password.now c.args.limit t c.in_ok-places.places c.open_contents.new.budget.spent) (sym all)
          (contents_so T c.args.password.now c.args.limit c.in_ok-listed.listed l.0 l.1
          c.open_contents.new.text c.in_ok-places.places c.open_contents.new.budget.spent o.0 o.1 o.2 (omega (arith, size, ap length c.in_ok-text.ensures, l.0.short)) o.3.1),
      o.3.0 ∙ l.1,
      omega (arith, o.3.1, o.4, l.2),
    )
