-- Certificate bags (RFC 7292 section 4.2.3).
use Rattle.std.specs.Prelude.{◌≡◌, ℕ, List}
use Rattle.asn1_core.specs.Texts.{On, Within, Oid, Inside}
use Rattle.asn1_core.specs.Fields.{Sequence}
use Rattle.asn1_core.specs.Oid.{oid_octets}
use Rattle.asn1_core.specs.declared.identifier.ObjectIdentifier.{ObjectIdentifier}
use Rattle.asn1_core.specs.Unicode.{Ia5}
use Rattle.p12.specs.Identifiers.{x509_certificate_oid, sdsi_certificate_oid}
use Rattle.p12.specs.declared.cert_bag.CertBag.{CertBag}
use Rattle.p12.specs.declared.cert_bag.CertBag.TheVariants.{X509, SDSI}

-- what comes after the identifier k of a certificate; another identifier has no text
abbrev pub CertBagCase : ObjectIdentifier → List ℕ → CertBag → Type 0
CertBagCase k q (X509 v) = (oid_octets k ≡ x509_certificate_oid) × Within 0xa0 (Inside 0x04) q v
CertBagCase k q (SDSI t) = (oid_octets k ≡ sdsi_certificate_oid) × Within 0xa0 Ia5 q t

-- CertBag ::= SEQUENCE { certId OBJECT IDENTIFIER, certValue [0] EXPLICIT OCTET STRING or IA5String
-- }
abbrev pub CertBagText : List ℕ → CertBag → Type 0
CertBagText = Sequence (On Oid CertBagCase)
