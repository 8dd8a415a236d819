use Rattle.std.proofs.Common.{arith}
use Rattle.asn1_core.specs.ElementLaws.{header_shorter, slice_shorter, raw_reads}
use Rattle.asn1_core.proofs.front.raw_in_front.Goals as goal

pub overflow_sub-r : goal.overflow_sub-r
overflow_sub-r c =
    omega (arith, header_shorter _ _ _ c.in_ok-header.ensures.read, slice_shorter _ _ _ _ c.in_ok-read_slice.ensures.read)

pub returns-clause-exact : goal.returns-clause-exact
returns-clause-exact c = rw c.split_at.ensures.front (raw_reads _ _ _ _ _ c.in_ok-header.ensures.read c.in_ok-read_slice.ensures.read)

pub returns-clause-shorter : goal.returns-clause-shorter
returns-clause-shorter c =
    omega (arith, header_shorter _ _ _ c.in_ok-header.ensures.read, slice_shorter _ _ _ _ c.in_ok-read_slice.ensures.read)
