-- Certificates, as far as they are read (RFC 5280 section 4.1).
use Rattle.std.specs.Prelude.{ℕ, ◌==◌, Bool, List, length, nat_lt, slice_index}
use Rattle.asn1_core.specs.Der.{IsShort}
use Rattle.asn1_core.specs.Texts.{Ended, Inside, On, Perhaps, Raw, Within}
use Rattle.asn1_core.specs.Fields.{Passing, Sequence}
use Rattle.der_core.specs.Any.{AnyText}
use Rattle.der_core.specs.BitString.{BitsOf}
use Rattle.spki.specs.Algorithm.{AlgorithmText}
use Rattle.spki.specs.Seen.{AnyAlgorithm, AnyPublicKey}
use Rattle.spki.specs.SubjectPublicKeyInfo.{PublicKeyText}

-- What is kept of a certificate: its names, as whole elements, and its public key.
pub record Certificate : Type 0 where
  pub issuer : List ℕ
  pub subject : List ℕ
  pub key : AnyPublicKey

abbrev pub certificate : List ℕ → List ℕ → AnyPublicKey → Certificate
certificate issuer subject key = record { issuer = issuer; subject = subject; key = key }

-- whether an element begins with this octet
abbrev pub begins : ℕ → List ℕ → Bool
begins tag element = slice_index element 0 == tag

-- one element of this tag, whatever it holds
abbrev pub Tagged : ℕ → List ℕ → List ℕ → Type 0
Tagged tag = Passing (begins tag) Raw

abbrev pub has_octets : List ℕ → Bool
has_octets v = nat_lt 0 (length v)

-- an INTEGER, whose value has an octet at least
abbrev pub SerialText : List ℕ → List ℕ → Type 0
SerialText = Passing has_octets (Inside 0x02)

-- an AlgorithmIdentifier (section 4.1.1.2)
abbrev pub AnyAlgorithmText : List ℕ → AnyAlgorithm → Type 0
AnyAlgorithmText = AlgorithmText AnyText

-- a BIT STRING
abbrev pub BitsText : List ℕ → ℕ × List ℕ → Type 0
BitsText = Within 0x03 BitsOf

-- a SubjectPublicKeyInfo (section 4.1.2.7)
abbrev pub KeyText : List ℕ → AnyPublicKey → Type 0
KeyText = PublicKeyText AnyText BitsText

-- what may come after the key: issuerUniqueID [1], subjectUniqueID [2], extensions [3]
abbrev pub AfterKey : Certificate → List ℕ → Certificate → Type 0
AfterKey c = On (Perhaps (Tagged 0x81)) (λ issuer_id. On (Perhaps (Tagged 0x82)) (λ subject_id.
    On (Perhaps (Tagged 0xa3)) (λ extensions. Ended c)))

-- TBSCertificate ::= SEQUENCE { version [0] OPTIONAL, serialNumber INTEGER, signature
-- AlgorithmIdentifier, issuer, validity, subject,
-- subjectPublicKeyInfo SubjectPublicKeyInfo, issuerUniqueID [1] OPTIONAL, subjectUniqueID [2]
-- OPTIONAL, extensions [3] OPTIONAL }
abbrev pub SignedText : List ℕ → Certificate → Type 0
SignedText = Sequence (On (Perhaps (Tagged 0xa0)) (λ version. On SerialText (λ serial.
    On AnyAlgorithmText (λ signature.
    On (Tagged 0x30) (λ issuer. On (Tagged 0x30) (λ validity. On (Tagged 0x30) (λ subject.
    On KeyText (λ key. AfterKey (certificate issuer subject key)))))))))

-- Certificate ::= SEQUENCE { tbsCertificate TBSCertificate, signatureAlgorithm AlgorithmIdentifier,
-- signature BIT STRING }
abbrev pub CertificateText : List ℕ → Certificate → Type 0
CertificateText = Sequence (On SignedText (λ c. On AnyAlgorithmText (λ algorithm.
    On BitsText (λ signature. Ended c))))

-- b is the text of a certificate, of at most 2 ^ 32 - 1 octets, and c is what is kept of it.
abbrev pub IsCertificate : List ℕ → Certificate → Type 0
IsCertificate b c = CertificateText b c × IsShort b
