use Rattle.asn1_core.specs.ElementLaws.{slice_found}
use Rattle.der_core.proofs.any_ref.AnyRefDecodeRefSliceU8.decode.Goals as goal

pub invariant_of-result : goal.invariant_of-result
invariant_of-result g c =
    let s = slice_found c.in_ok-header.header.length.value (g.R.Reader.left c.header.new.self) c.in_ok-value.value.now _ c.in_ok-value.ensures.read in
    record { short = rw s.1 c.in_ok-header.header.short }
