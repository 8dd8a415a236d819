use Rattle.std.proofs.Common.{◌∷◌, lit<}
use Rattle.std.proofs.lemmas.Str.Pattern.{strip_prefix_char}
use Rattle.phc_core.proofs.Pieces.{strip_both}
use Rattle.phc_core.proofs.reading.version_digits.Goals as goal

pub returns-in-Some : goal.returns-in-Some
returns-in-Some c =
    let one = strip_prefix_char 118 c.args.field.now c.strip_prefix.result c.strip_prefix.ensures.cases (lit< tt) in
    let two = strip_prefix_char 61 c.in-Some.rest.now c.strip_prefix-in-Some.result c.strip_prefix-in-Some.ensures.cases (lit< tt) in
    strip_both c.args.field.now c.in-Some.rest.now c.strip_prefix-in-Some.result (rw c.in-Some.is at one) two

pub returns-in-None : goal.returns-in-None
returns-in-None c =
    let one = strip_prefix_char 118 c.args.field.now c.strip_prefix.result c.strip_prefix.ensures.cases (lit< tt) in
    λ r e. (rw c.in-None.is at one) (61 ∷ r) e
