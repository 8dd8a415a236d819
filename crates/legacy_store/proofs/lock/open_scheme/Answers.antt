use Rattle.std.proofs.Common.{◌∙◌, arith, sym}
use Rattle.legacy_store.specs.Algorithm.{seen_scheme}
use Rattle.legacy_store.specs.Forms.{seen_forms}
use Rattle.legacy_store.proofs.Opened.{scheme_opened, scheme_taken_most}
use Rattle.legacy_store.proofs.lock.open_scheme.Goals as goal

pub returns-in-Ok-Some-clause-opened : goal.returns-in-Ok-Some-clause-opened
returns-in-Ok-Some-clause-opened g c =
    let opens = sym c.in-Ok-Some.ensures.value ∙ c.in-Ok-Some.field-0-is in
    let o = scheme_opened (seen_forms c.args.secret.now) (seen_scheme c.args.scheme.now) c.args.ciphertext.now _ opens in
    (opens, (grind arith, grind arith), grind (arith, o.all, c.in-Ok-Some.ensures.steps))

pub returns-in-Ok-Some-clause-short : goal.returns-in-Ok-Some-clause-short
returns-in-Ok-Some-clause-short g c = rw c.in-Ok-Some.field-0-is at c.in-Ok-Some.ensures.short

pub returns-in-Ok-Some-clause-at_most : goal.returns-in-Ok-Some-clause-at_most
returns-in-Ok-Some-clause-at_most g c = grind (arith, scheme_taken_most (seen_scheme c.args.scheme.now) c.args.ciphertext.now)

pub returns-in-Ok-None-clause-at_most : goal.returns-in-Ok-None-clause-at_most
returns-in-Ok-None-clause-at_most g c = grind (arith, scheme_taken_most (seen_scheme c.args.scheme.now) c.args.ciphertext.now)

pub returns-in-Err-clause-at_most : goal.returns-in-Err-clause-at_most
returns-in-Err-clause-at_most g c = grind (arith, scheme_taken_most (seen_scheme c.args.scheme.now) c.args.ciphertext.now)
