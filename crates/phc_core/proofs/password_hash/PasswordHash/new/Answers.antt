use Rattle.std.proofs.Common.{refl, lit<}
use Rattle.std.proofs.lemmas.Str.Pattern.{strip_prefix_char}
use Rattle.phc_core.proofs.Stages.{no_start, no_id, no_rest}
use Rattle.phc_core.proofs.password_hash.PasswordHash.new.Goals as goal

pub returns-in_default-clause-err : goal.returns-in_default-clause-err
returns-in_default-clause-err c =
    let one = strip_prefix_char 36 c.args.text.now c.strip_prefix.result c.strip_prefix.ensures.cases (lit< tt) in
    (refl, no_start _ (rw c.in_default.is at one))

pub returns-in_default-new-clause-err : goal.returns-in_default-new-clause-err
returns-in_default-new-clause-err c =
    let one = strip_prefix_char 36 c.args.text.now c.strip_prefix.result c.strip_prefix.ensures.cases (lit< tt) in
    (refl, no_id _ _ _ _ (rw c.in-Some.is at one) c.cut.ensures c.in_default-new.ensures.err.1)

pub returns-in_default-read_version-clause-err : goal.returns-in_default-read_version-clause-err
returns-in_default-read_version-clause-err c =
    let one = strip_prefix_char 36 c.args.text.now c.strip_prefix.result c.strip_prefix.ensures.cases (lit< tt) in
    (refl, no_rest _ _ _ _ (rw c.in-Some.is at one) c.cut.ensures c.in_default-read_version.ensures.err.1)
