use Rattle.std.proofs.Common.{◌∙◌}
use Rattle.p12.specs.Building.{seen_entry}
use Rattle.p12.proofs.MadeRefusals.{seal_refused}
use Rattle.p12.proofs.store.sealed_certificates.Goals as goal

pub returns-clause-err : goal.returns-clause-err
returns-clause-err c = seal_refused (seen_entry c.args.entry) c.as_slice.result.now c.seal_bags.result (c.as_slice.ensures ∙ c.in_ok-bags.ensures.ok) c.seal_bags.ensures.err
