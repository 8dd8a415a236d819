use Rattle.base64.specs.Engines.{standard_no_pad}
use Rattle.base64.specs.GeneralPurpose.{decode_of, IsBytes}
use Rattle.phc_core.specs.Output.{IsOutput}
use Rattle.phc_core.specs.PasswordHash.{base64}
use Rattle.std.proofs.Common.{rules, ◌∙◌, sym, ap, arith, refl, length, subst}
use Rattle.phc_core.proofs.Symbols.{length-base64, refused_none, decoded_is, decoded_text}
use Rattle.phc_core.proofs.output.Output.read.Goals as goal

pub returns-then-field-gt86-clause-err : goal.returns-then-field-gt86-clause-err
returns-then-field-gt86-clause-err c = (refl, λ s is e. omega (arith, is.1, ap length e, length-base64 s, c.if-field-gt86.true))

pub returns-in_default-clause-err : goal.returns-in_default-clause-err
returns-in_default-clause-err c = (refl, λ s is e. refused_none _ _ c.in_default.ensures.err s is.2 (c.as_bytes.ensures.value ∙ e))

pub returns-in-Ok-new-clause-ok : goal.returns-in-Ok-new-clause-ok
returns-in-Ok-new-clause-ok c =
    let new = c.in-Ok-new.ensures.ok in
    let same = c.as_bytes.ensures.value in
    let bytes : IsBytes c.args.field.now = search (rules, c.type_inv.field) in
    let text = decoded_text c.args.field.now _ bytes (ap (decode_of standard_no_pad) (sym same) ∙ c.in-Ok.ensures.ok.0) in
    (subst IsOutput (sym new.0) new.1, text ∙ ap base64 (sym new.0))

pub returns-in-Err-clause-err : goal.returns-in-Err-clause-err
returns-in-Err-clause-err c = (
  refl,
  λ s is e.
      let same = decoded_is _ _ c.in-Ok.ensures.ok.0 s is.2 (c.as_bytes.ensures.value ∙ e) in
      omega (arith, c.in-Err.ensures.err.1, (subst IsOutput same is).0, (subst IsOutput same is).1),
)
