-- The MAC of a store (RFC 7292 section 4).
use Rattle.std.specs.Prelude.{ℕ, ◌-◌, ◌^◌, ◌&&◌, nat_lt, if◌then◌else◌, Bool, true, false, List, []}
use Rattle.asn1_core.specs.Texts.{Uint, Inside}
use Rattle.asn1_core.specs.Fields.{Field, End, OrNothing, Sequence}
use Rattle.std.specs.Str.{bytes_eq}
use Rattle.sha1.specs.Sha1.{sha1}
use Rattle.sha2.specs.Sha256.{sha256}
use Rattle.pkcs12_kdf.specs.Mac.{mac_under}
use Rattle.p12.specs.declared.algorithm_identifier.AlgorithmIdentifier.{AlgorithmIdentifier}
use Rattle.p12.specs.declared.algorithm_identifier.AlgorithmIdentifier.TheVariants.{Sha1, Sha256}
use Rattle.p12.specs.DigestInfo.{DigestText}
use Rattle.p12.specs.declared.mac_data.MacData.{MacData}

-- MacData ::= SEQUENCE { mac DigestInfo, macSalt OCTET STRING, iterations INTEGER DEFAULT 1 }, the
-- count below 2 ^ 32
abbrev pub MacText : List ℕ → MacData → Type 0
MacText = Sequence (Field DigestText (λ m. m.mac) (Field (Inside 0x04) (λ m. m.salt)
    (Field (OrNothing 1 (Uint (2 ^ 32 - 1))) (λ m. m.iterations) End)))

-- whether a MAC under this digest can be tested: SHA-1 and SHA-256
abbrev pub is_mac_digest : AlgorithmIdentifier → Bool
is_mac_digest Sha1 = true
is_mac_digest Sha256 = true
is_mac_digest _ = false

-- the MAC of a content under the digest's own hash; the password comes in UTF-16
unfoldable pub mac_value : AlgorithmIdentifier → List ℕ → List ℕ → ℕ → List ℕ → List ℕ
mac_value Sha1 = mac_under sha1 20
mac_value Sha256 = mac_under sha256 32
mac_value _ = λ q salt r v. []

-- the digest is SHA-1 or SHA-256, the count at least 1, and the octets are the MAC of the content
unfoldable pub mac_agrees : MacData → List ℕ → List ℕ → Bool
mac_agrees m q v =
    let a = m.mac.digest_algorithm in
    is_mac_digest a && (nat_lt 0 m.iterations
    && bytes_eq (mac_value a q m.salt m.iterations v) m.mac.digest)

-- the steps of testing it
abbrev pub mac_steps : MacData → ℕ
mac_steps m = if is_mac_digest m.mac.digest_algorithm then m.iterations else 0

-- the MAC of a content under a digest, with this salt and count
unfoldable pub mac_of : AlgorithmIdentifier → List ℕ → List ℕ → List ℕ → ℕ → MacData
mac_of a q v salt r =
    record {
      mac = record { digest_algorithm = a; digest = mac_value a q salt r v };
      salt = salt;
      iterations = r;
    }
