-- The certificates of a PEM file.
use Rattle.std.specs.Prelude.{ℕ, ◌≡◌, ◌≢◌, ◌||◌, Bool, true, false, List, [], All, Any, codes, filter, map, ⊤}
use Rattle.std.specs.List.{list_any}
use Rattle.std.specs.Str.{bytes_eq}
use Rattle.asn1_core.specs.Gives.{IsNone}
use Rattle.inventory_core.specs.Certificate.{Certificate, IsCertificate}
use Rattle.pem_text.specs.declared.block.Block.{Block}
use Rattle.pem_stores.specs.declared.certificates.CertificateRefusal.{CertificateRefusal}
use Rattle.pem_stores.specs.declared.certificates.CertificateRefusal.TheVariants.{NoCertificate, Trusted, Malformed, Memory}

abbrev pub is_certificate_label : List ℕ → Bool
is_certificate_label label =
    bytes_eq label (codes "CERTIFICATE") || bytes_eq label (codes "X509 CERTIFICATE")

abbrev pub is_certificate_block : Block → Bool
is_certificate_block b = is_certificate_label b.label

abbrev pub is_trusted_block : Block → Bool
is_trusted_block b = bytes_eq b.label (codes "TRUSTED CERTIFICATE")

-- what the blocks of certificates have, in order
abbrev pub certificates_of : List Block → List (List ℕ)
certificates_of bs = map (λ (b : Block). b.octets) (filter is_certificate_block bs)

abbrev pub IsCertificateText : List ℕ → Type 0
IsCertificateText b = (c : Certificate) × IsCertificate b c

-- These are the certificates of the blocks, at least one, and each is a certificate (RFC 5280).
pub record AreCertificates (bs : List Block) (cs : List (List ℕ)) : Type 0 where
  pub plain : list_any is_trusted_block bs ≡ false
  pub in_order : cs ≡ certificates_of bs
  pub some : cs ≢ []
  pub each : All IsCertificateText cs

-- There are none, by cases on the refusal: the first cause in this order.
abbrev pub LacksCertificates : List Block → CertificateRefusal → Type 0
LacksCertificates bs Trusted = list_any is_trusted_block bs ≡ true
LacksCertificates bs Malformed = (list_any is_trusted_block bs ≡ false)
    × Any (λ (b : Block). (is_certificate_block b ≡ true) × IsNone IsCertificate b.octets) bs
LacksCertificates bs NoCertificate = (list_any is_trusted_block bs ≡ false)
    × (certificates_of bs ≡ [])
LacksCertificates bs Memory = ⊤
