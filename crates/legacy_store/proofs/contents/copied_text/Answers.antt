use Rattle.p12.specs.SafeBag.{NoBags}
use Rattle.legacy_store.proofs.Parts.{malformed_by}
use Rattle.legacy_store.proofs.contents.copied_text.Goals as goal

pub returns-in-Err-clause-err : goal.returns-in-Err-clause-err
returns-in-Err-clause-err c = malformed_by (NoBags c.args.text.now) c.in-Err.e c.in-Err.ensures.err
