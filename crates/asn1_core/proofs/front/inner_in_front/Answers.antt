use Rattle.std.proofs.Common.{arith}
use Rattle.asn1_core.specs.ElementLaws.{header_shorter, slice_shorter}
use Rattle.asn1_core.proofs.front.inner_in_front.Goals as goal

pub returns-clause-shorter : goal.returns-clause-shorter
returns-clause-shorter c =
    omega (arith, header_shorter _ _ _ c.in_ok-header.ensures.read, slice_shorter _ _ _ _ c.in_ok-value.ensures.read)
