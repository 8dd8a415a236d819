use Rattle.std.proofs.Common.{◌∙◌, ap, length, take}
use Rattle.asn1_core.specs.ElementLaws.{oid_reads}
use Rattle.octet_core.specs.PaddedLaws.{take_padded}
use Rattle.asn1_core.proofs.identifier.ObjectIdentifier.from_bytes.Goals as goal

pub returns-clause-read : goal.returns-clause-read
returns-clause-read c = oid_reads c.args.octets.now _ (ap (take (length c.args.octets.now)) c.pad.ensures ∙ take_padded 39 c.args.octets.now)
