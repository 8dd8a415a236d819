-- Private keys of elliptic curves (RFC 5915 section 3), as far as they are read.
use Rattle.std.specs.Prelude.{ℕ, List, Option}
use Rattle.asn1_core.specs.Der.{IsShort}
use Rattle.asn1_core.specs.Texts.{Ended, Inside, On, Perhaps, Within, seen_option}
use Rattle.asn1_core.specs.Fields.{Sequence}
use Rattle.der_core.specs.Any.{AnyText}
use Rattle.der_core.specs.BitString.{BitsOf, seen_bits}
use Rattle.spki.specs.Seen.{borrowed_any}
use Rattle.key_files.specs.Rsa.{IntegerText}
use Rattle.key_files.specs.declared.ec_private_key.EcPrivateKey.{EcPrivateKey}

-- the curve's parameters, by their tag octet and value; the public key, by its number of unused bits
-- and its octets
pub record Ec : Type 0 where
  pub parameters : Option (ℕ × List ℕ)
  pub public_key : Option (ℕ × List ℕ)

abbrev pub ec : Option (ℕ × List ℕ) → Option (ℕ × List ℕ) → Ec
ec ps q = record { parameters = ps; public_key = q }

abbrev pub seen_ec : EcPrivateKey → Ec
seen_ec k = ec (seen_option borrowed_any k.parameters)
    (seen_option (λ s. seen_bits s.unused_bits s.octets.now) k.public_key)

-- a BIT STRING
abbrev pub PointText : List ℕ → ℕ × List ℕ → Type 0
PointText = Within 0x03 BitsOf

-- ECPrivateKey ::= SEQUENCE { version INTEGER, privateKey OCTET STRING, parameters [0] EXPLICIT
-- OPTIONAL, publicKey [1] EXPLICIT BIT STRING OPTIONAL }
abbrev pub EcPrivateKeyText : List ℕ → Ec → Type 0
EcPrivateKeyText = Sequence (On IntegerText (λ version. On (Inside 0x04) (λ key.
    On (Perhaps (Within 0xa0 AnyText)) (λ ps. On (Perhaps (Within 0xa1 PointText)) (λ q.
    Ended (ec ps q))))))

-- b is the text of such a key, of at most 2 ^ 32 - 1 octets
abbrev pub IsEcPrivateKey : List ℕ → Ec → Type 0
IsEcPrivateKey b k = EcPrivateKeyText b k × IsShort b
