use Rattle.std.proofs.Common.{arith}
use Rattle.asn1_core.specs.ElementLaws.{header_shorter, slice_shorter}
use Rattle.pkcs8.proofs.fields.skip_further_field.Goals as goal

pub returns-clause-shorter : goal.returns-clause-shorter
returns-clause-shorter c =
    omega (arith, header_shorter _ _ _ c.in_ok-header.ensures.read, slice_shorter _ _ _ _ c.in_ok-read_slice.ensures.read)
