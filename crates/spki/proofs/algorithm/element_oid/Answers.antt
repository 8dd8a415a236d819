use Rattle.spki.specs.OidLaws.{parses_oid, element_short}
use Rattle.spki.proofs.algorithm.element_oid.Goals as goal

pub returns : goal.returns
returns c =
    let short = element_short c.args.element.now.tag.first c.args.element.now.value.now c.args.element.now.short in
    parses_oid _ short c.decode_as.result c.decode_as.ensures
