use Rattle.std.proofs.Common.{◌∙◌, refl, sym}
use Rattle.der_core.specs.BitString.{seen_bits}
use Rattle.key_files.specs.Ec.{seen_ec}
use Rattle.key_files.proofs.Matches.{bits_apart, bits_equal, ec_absent, ec_another, ec_compressed, ec_own, ec_unread, first_differs, first_is}
use Rattle.key_files.proofs.matching.ec_match.Goals as goal
use Rattle.key_files.proofs.matching.ec_match.Goals.{else-is_uncompressed-via-then-is_uncompressed+else-is_uncompressed-2, else-is_uncompressed-via-else-is_uncompressed}

pub returns-in_default : goal.returns-in_default
returns-in_default c = ec_unread c.args.key.now (seen_bits c.args.public.now.unused_bits c.args.public.now.octets.now) c.in_default.ensures.1

pub returns-in_default-public_key : goal.returns-in_default-public_key
returns-in_default-public_key c =
    ec_absent c.args.key.now (seen_bits c.args.public.now.unused_bits c.args.public.now.octets.now) (seen_ec c.in-Ok.read) c.in-Ok.ensures (rw c.in_default-public_key.is refl)

pub returns-then-eq : goal.returns-then-eq
returns-then-eq c =
    let told = c.in-Some.told in
    ec_own c.args.key.now (seen_bits told.unused_bits told.octets.now) (seen_bits c.args.public.now.unused_bits c.args.public.now.octets.now) (seen_ec c.in-Ok.read) c.in-Ok.ensures (rw c.in-Some.is refl)
    (bits_equal told.unused_bits c.args.public.now.unused_bits told.octets.now c.args.public.now.octets.now (sym c.eq.ensures ∙ c.if-eq.true))

pub returns-then-is_uncompressed-2 : goal.returns-then-is_uncompressed-2
returns-then-is_uncompressed-2 c =
    let told = c.in-Some.told in
    ec_another c.args.key.now (seen_bits told.unused_bits told.octets.now) (seen_bits c.args.public.now.unused_bits c.args.public.now.octets.now) (seen_ec c.in-Ok.read) c.in-Ok.ensures (rw c.in-Some.is refl)
    (bits_apart told.unused_bits c.args.public.now.unused_bits told.octets.now c.args.public.now.octets.now (sym c.eq.ensures ∙ c.if-eq.false)) (
      first_is c.is_uncompressed.result c.raw_bytes.result.now told.octets.now c.if-is_uncompressed.true c.is_uncompressed.ensures c.raw_bytes.ensures,
      first_is c.is_uncompressed-then-is_uncompressed.result c.raw_bytes-then-is_uncompressed.result.now c.args.public.now.octets.now c.if-is_uncompressed-2.true
          c.is_uncompressed-then-is_uncompressed.ensures c.raw_bytes-then-is_uncompressed.ensures,
    )

pub returns-else-is_uncompressed : goal.returns-else-is_uncompressed
returns-else-is_uncompressed c =
    let told = c.in-Some.told in
    ec_compressed c.args.key.now (seen_bits told.unused_bits told.octets.now) (seen_bits c.args.public.now.unused_bits c.args.public.now.octets.now) (seen_ec c.in-Ok.read) c.in-Ok.ensures (rw c.in-Some.is refl)
    (bits_apart told.unused_bits c.args.public.now.unused_bits told.octets.now c.args.public.now.octets.now (sym c.eq.ensures ∙ c.if-eq.false))
    (λ both. elim c.else-is_uncompressed.branch [
      | else-is_uncompressed-via-then-is_uncompressed+else-is_uncompressed-2 w ↦
          first_differs w.is_uncompressed-then-is_uncompressed.result w.raw_bytes-then-is_uncompressed.result.now c.args.public.now.octets.now w.if-is_uncompressed-2.false
          w.is_uncompressed-then-is_uncompressed.ensures w.raw_bytes-then-is_uncompressed.ensures both.1
      | else-is_uncompressed-via-else-is_uncompressed w ↦ first_differs c.is_uncompressed.result c.raw_bytes.result.now told.octets.now w.if-is_uncompressed.false c.is_uncompressed.ensures c.raw_bytes.ensures both.0
    ])
