-- What is seen of a certificate that lends its parts.
use Rattle.std.specs.Prelude.{List, Option, map}
use Rattle.asn1_core.specs.Texts.{seen_option}
use Rattle.der_core.specs.BitString.{seen_bits}
use Rattle.spki.specs.Seen.{borrowed_any, seen_public_key}
use Rattle.inventory_core.specs.declared.certificate.CertificateView.{CertificateView}
use Rattle.inventory_core.specs.Certificate.{Certificate, certificate}

abbrev pub seen_certificate : CertificateView → Certificate
seen_certificate c =
    certificate c.issuer.now c.subject.now (seen_public_key borrowed_any
    (λ s. seen_bits s.unused_bits s.octets.now) c.spki)

-- of those that could be read
abbrev pub seen_all : List (Option CertificateView) → List (Option Certificate)
seen_all cs = map (seen_option seen_certificate) cs
