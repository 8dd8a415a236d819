use Rattle.std.proofs.Common.{◌∙◌, refl, sym}
use Rattle.der_core.specs.BitString.{seen_bits}
use Rattle.key_files.proofs.Matches.{bits_apart}
use Rattle.key_files.proofs.matching.other_match.Goals as goal

pub returns-in-Some-2 : goal.returns-in-Some-2
returns-in-Some-2 c =
    let told = c.in-Some.told in
    (seen_bits told.unused_bits told.octets.now, rw c.in-Some.is refl, bits_apart told.unused_bits c.args.public.now.unused_bits told.octets.now c.args.public.now.octets.now (sym c.eq.ensures ∙ c.if-eq.false))
