-- The parts of a certificate that people ask for (RFC 5280 section 4.1).
use Rattle.std.specs.Prelude.{ℕ, List, Option, Some, None, ◌≡◌}
use Rattle.asn1_core.specs.Der.{IsShort}
use Rattle.asn1_core.specs.Texts.{Ended, Inside, On, Perhaps, Raw, Taken, Within, seen_option}
use Rattle.asn1_core.specs.Fields.{Sequence}
use Rattle.x509_names.specs.declared.parts.Parts.{Parts}

-- The octets of the serial number, and the other parts as whole elements.
pub record CertificateParts : Type 0 where
  pub serial_number : List ℕ
  pub issuer : List ℕ
  pub validity : Option (List ℕ × List ℕ)
  pub subject : List ℕ

-- these parts
abbrev pub certificate_parts : List ℕ → List ℕ → Option (List ℕ × List ℕ) → List ℕ
    → CertificateParts
certificate_parts serial issuer validity subject = record {
  serial_number = serial;
  issuer = issuer;
  validity = validity;
  subject = subject;
}

-- any octets, for the value x
abbrev pub Anything : {A : Type 0} → A → List ℕ → A → Type 0
Anything x b v = v ≡ x

-- two elements, and nothing after them
abbrev pub TwoElements : List ℕ → List ℕ × List ℕ → Type 0
TwoElements = On Raw (λ first. On Raw (λ second. Ended (first, second)))

-- a value of R, or none where the octets are a text of none
abbrev pub OrNone : {A : Type 0} → (List ℕ → A → Type 0) → List ℕ → Option A → Type 0
OrNone R b (Some v) = R b v
OrNone R b None = (v : _) → R b v → IsShort b → ⊥

-- the front of TBSCertificate ::= SEQUENCE { version [0] OPTIONAL, serialNumber INTEGER, signature
-- SEQUENCE, issuer,
--     validity SEQUENCE, subject, .. }; the validity counts where it has two elements and no more
abbrev pub SignedFront : List ℕ → CertificateParts → Type 0
SignedFront = Sequence (On (Perhaps (Inside 0xa0)) (λ version. On (Inside 0x02) (λ serial.
    On (Inside 0x30) (λ signature. On Raw (λ issuer.
    On (Within 0x30 (OrNone TwoElements)) (λ validity.
    On Raw (λ subject. Anything (certificate_parts serial issuer validity subject))))))))

-- the front of Certificate ::= SEQUENCE { tbsCertificate TBSCertificate, .. }
abbrev pub CertificateFront : List ℕ → CertificateParts → Type 0
CertificateFront = Sequence (On SignedFront (λ p. Anything p))

-- The octets b begin as a certificate does, as far as its subject, and p are the parts.
abbrev pub HasParts : List ℕ → CertificateParts → Type 0
HasParts b p = (rest : List ℕ) × Taken CertificateFront b p rest

-- what is seen of parts that are lent
abbrev pub seen_parts : Parts → CertificateParts
seen_parts p = certificate_parts p.serial_number.now p.issuer.now
    (seen_option (λ times. (times.0.now, times.1.now)) p.validity) p.subject.now
