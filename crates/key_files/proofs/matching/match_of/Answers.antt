use Rattle.std.proofs.Common.{◌≡◌, ◌∙◌, sym, rules, arith}
use Rattle.std.proofs.lemmas.Grind.{common_steps}
use Rattle.asn1_core.specs.Oid.{oid_octets}
use Rattle.der_core.specs.BitString.{seen_bits}
use Rattle.pkcs8.specs.Seen.{seen_private_key}
use Rattle.spki.specs.Seen.{borrowed_any, seen_public_key}
use Rattle.key_files.proofs.Matches.{ec_by, rsa_by}
use Rattle.key_files.proofs.matching.match_of.Goals as goal

pub returns-in-Rsa : goal.returns-in-Rsa
returns-in-Rsa c =
    let same : oid_octets c.args.key.now.algorithm.oid ≡ oid_octets c.args.public.now.algorithm.oid = first_of (search rules, grind (arith, common_steps)) in
    rsa_by (seen_private_key borrowed_any (λ s. s.octets.now) (λ s. seen_bits s.unused_bits s.octets.now) c.args.key.now)
    (seen_public_key borrowed_any (λ s. seen_bits s.unused_bits s.octets.now) c.args.public.now) c.rsa_match.result c.as_bytes-in-Rsa.result.now same
    (sym c.kind_of.ensures ∙ c.in-Rsa.is) c.as_bytes-in-Rsa.ensures c.rsa_match.ensures

pub returns-in-Ec : goal.returns-in-Ec
returns-in-Ec c =
    let same : oid_octets c.args.key.now.algorithm.oid ≡ oid_octets c.args.public.now.algorithm.oid = first_of (search rules, grind (arith, common_steps)) in
    ec_by (seen_private_key borrowed_any (λ s. s.octets.now) (λ s. seen_bits s.unused_bits s.octets.now) c.args.key.now)
    (seen_public_key borrowed_any (λ s. seen_bits s.unused_bits s.octets.now) c.args.public.now) c.ec_match.result c.as_bytes-in-Ec.result.now same
    (sym c.kind_of.ensures ∙ c.in-Ec.is) c.as_bytes-in-Ec.ensures c.ec_match.ensures
