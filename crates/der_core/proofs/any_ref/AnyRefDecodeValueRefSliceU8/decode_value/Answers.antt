use Rattle.asn1_core.specs.ElementLaws.{slice_found}
use Rattle.der_core.proofs.any_ref.AnyRefDecodeValueRefSliceU8.decode_value.Goals as goal

pub invariant_of-result : goal.invariant_of-result
invariant_of-result g c =
    let s = slice_found c.args.header.length.value (g.R.Reader.left c.args.r.now) c.in_ok-value.value.now _ c.in_ok-value.ensures.read in
    record { short = rw s.1 c.args.header.short }
